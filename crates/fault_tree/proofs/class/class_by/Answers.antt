-- `fault_tree::class::class_by` meets its contract. The bits of the loads below j are set (`Bits`).
use Rattle.fault_tree.proofs.ClassBits.{bits-start, bits-more}
use Rattle.fault_tree.proofs.class.class_by.Goals as goal

pub loop-j-init : goal.loop-j-init
loop-j-init c = bits-start

pub loop-j-preserved : goal.loop-j-preserved
loop-j-preserved c = bits-more c.loop-j.invariant c.loop-j-test.true c.requires c.lost.ensures

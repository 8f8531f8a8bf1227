-- `fault_tree::class::class_by` meets its contract. The bits of the loads below j are set (`Bits`).
use Rattle.fault_tree.proofs.ClassBits.{Bits}
use Rattle.fault_tree.proofs.class.class_by.Given as goal

abbrev pub invariant-loop-j : goal.invariant-loop-j
invariant-loop-j l = Bits l.truths l.load l.n l.j l.class

-- `fault_tree::gates::distinct_gates` meets its contract: the gates below i are without their repeats.
use Rattle.std.proofs.Common.{◌<◌, ◌∙◌, arith, length, length-set}
use Rattle.fault_tree.proofs.GatesTold.{once-more}
use Rattle.fault_tree.proofs.gates.distinct_gates.Goals as goal

pub loop-i-preserved : goal.loop-i-preserved
loop-i-preserved c =
    let gate = c.without_repeats.ensures in
    let places = c.loop-i.invariant.0 in
    let inside : c.loop-i.i < length c.loop-i.once = omega (arith, places, c.requires.few, c.loop-i-test.true) in
    let more = once-more c.loop-i.invariant.1 inside gate.places (gate.inputs (c.requires.order _ c.loop-i-test.true)) in
    (length-set _ _ _ ∙ places, more)

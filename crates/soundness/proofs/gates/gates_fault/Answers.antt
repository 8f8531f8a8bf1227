-- `soundness::gates::gates_fault` meets its contract. No place so far is broken (`FirstLeft`), and the first that is ends the loop.
use Rattle.std.proofs.Common.{arith}
use Rattle.soundness.specs.Check.{gates_fault}
use Rattle.soundness.proofs.Places.{place_broken, all_passed}
use Rattle.soundness.proofs.gates.gates_fault.Goals as goal

pub returns-in_err-gate_place_fault : goal.returns-in_err-gate_place_fault
unfolding gates_fault
returns-in_err-gate_place_fault c =
    let first = place_broken c.loop-i.invariant _ c.loop-i-test.true c.in_err-gate_place_fault.ensures in grind arith

pub returns : goal.returns
unfolding gates_fault
returns c = all_passed c.loop-i.invariant c.loop-i-test.false

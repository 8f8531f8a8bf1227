-- `soundness::loads::loads_fault` meets its contract. No place so far is broken (`FirstLeft`), and the first that is ends the loop.
use Rattle.std.proofs.Common.{arith}
use Rattle.soundness.specs.Check.{loads_fault}
use Rattle.soundness.proofs.Places.{place_broken, all_passed}
use Rattle.soundness.proofs.loads.loads_fault.Goals as goal

pub returns-in_err-load_place_fault : goal.returns-in_err-load_place_fault
unfolding loads_fault
returns-in_err-load_place_fault c =
    let first = place_broken c.loop-j.invariant _ c.loop-j-test.true c.in_err-load_place_fault.ensures in grind arith

pub returns : goal.returns
unfolding loads_fault
returns c = all_passed c.loop-j.invariant c.loop-j-test.false

-- `soundness::inputs::tests_fault` meets its contract. No place so far is broken (`FirstLeft`), and the first that is ends the loop.
use Rattle.std.proofs.Common.{ℕ, get_or}
use Rattle.rules.specs.Limits.{most_tests}
use Rattle.rules.proofs.Firsts.{FirstLeft}
use Rattle.soundness.specs.Check.{test_place_fault}
use Rattle.soundness.proofs.inputs.tests_fault.Given as goal

abbrev pub invariant-loop-j : goal.invariant-loop-j
invariant-loop-j l =
    FirstLeft (λ (k : ℕ). test_place_fault l.counts l.tests k (get_or l.component k 0) (get_or l.mask k 0)) most_tests l.j 0

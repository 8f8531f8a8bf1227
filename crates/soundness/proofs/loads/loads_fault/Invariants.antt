-- `soundness::loads::loads_fault` meets its contract. No place so far is broken (`FirstLeft`), and the first that is ends the loop.
use Rattle.std.proofs.Common.{ℕ, get_or}
use Rattle.rules.specs.Limits.{most_loads}
use Rattle.rules.proofs.Firsts.{FirstLeft}
use Rattle.study.specs.Zero.{zero_load}
use Rattle.soundness.specs.Check.{load_place_fault}
use Rattle.soundness.proofs.loads.loads_fault.Given as goal

abbrev pub invariant-loop-j : goal.invariant-loop-j
invariant-loop-j l =
    FirstLeft (λ (k : ℕ). load_place_fault l.gates l.n k (get_or l.load k zero_load)) most_loads l.j 0

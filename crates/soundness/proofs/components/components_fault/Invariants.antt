-- `soundness::components::components_fault` meets its contract. No place so far is broken (`FirstLeft`), and the first that is ends the loop.
use Rattle.std.proofs.Common.{ℕ, get_or}
use Rattle.rules.specs.Limits.{most_components}
use Rattle.rules.proofs.Firsts.{FirstLeft}
use Rattle.study.specs.Zero.{zero_component}
use Rattle.soundness.specs.Check.{component_place_fault}
use Rattle.soundness.proofs.components.components_fault.Given as goal

abbrev pub invariant-loop-i : goal.invariant-loop-i
invariant-loop-i l =
    FirstLeft (λ (k : ℕ). component_place_fault l.n k (get_or l.component k zero_component)) most_components l.i 0

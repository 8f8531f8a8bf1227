-- What the counts and components of a study tell once no rule of theirs is broken: there are at most twelve, of at most four states each.
use Prim.Native.Nat.{ℕ, ◌<◌, ◌≤◌}
use mathlib.Core.Path.{◌≡◌}
use native.Mathlib.Omega.{arith}
use lib.ListN.{get_or, get_or-map}
use lib.Seq.{get_or-take}
use Rattle.rules.specs.Limits.{most_components, most_states}
use Rattle.rules.proofs.Kept.{first-kept, list-kept, used-kept}
use Rattle.rules.proofs.Firsts.{first_of-kept}
use Rattle.rules.proofs.Rows.{count_kept, states-kept}
use Rattle.study.specs.declared.Component.{Component}
use Rattle.study.specs.declared.Study.{Study}
use Rattle.study.specs.Joint.{states, state_counts}
use Rattle.study.specs.Places.{component_at}
use Rattle.study.specs.Zero.{zero_component}
use Rattle.soundness.specs.Check.{front_fault, components_fault, component_place_fault, component_fault}

pub components-most : (t : Study) → front_fault t ≡ 0 → t.components ≤ most_components
unfolding front_fault
components-most t e = (count_kept most_components t.components (list-kept _ _ e).left).most

states_most : (t : Study) → front_fault t ≡ 0 → (i : ℕ) → i < t.components → (component_at t i).states ≤ most_states
unfolding front_fault components_fault component_place_fault component_fault
states_most t e i h =
    let components = (list-kept _ _ (list-kept _ _ (list-kept _ _ (list-kept _ _ e).right).right).right).left in
    let place = first_of-kept _ most_components components i (omega (arith, components-most t e)) in
    (states-kept (component_at t i).states (first-kept _ _ (used-kept _ _ _ _ h place)).left).most

pub counts-most : (t : Study) → front_fault t ≡ 0 → (k : ℕ) → k < t.components → get_or (state_counts t) k 0 ≤ most_states
counts-most t e k h =
    rw (get_or-take t.components (states t.component) k 0 h, get_or-map (λ (c : Component). c.states) t.component k zero_component)
    (states_most t e k h)

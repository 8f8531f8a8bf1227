-- What the rules of a sound study tell of its numbers: how many records there are, of how many states, and what a gate's inputs name.
use Prim.Native.Nat.{ℕ, ◌+◌, ◌<◌, ◌≤◌}
use mathlib.Core.Path.{◌≡◌, refl, sym, subst, ◌∙◌}
use mathlib.Core.Bool.{Bool, true, false}
use mathlib.Core.List.{List}
use native.Mathlib.Nat.{min-le_left}
use native.Mathlib.Omega.{arith}
use lib.Dec.{ltb}
use lib.ListN.{length, get_or, length-take, length-map, get_or-map}
use lib.Seq.{get_or-take, length-take-le}
use borrow.Author.Tests.{ltb-true, ltb-false}
use Rattle.units.specs.One.{one}
use Rattle.lists.specs.Product.{product}
use Rattle.rules.specs.Limits.{most_components, most_gates, most_loads, fewest_states, most_states, most_joint_states, most_tests, most_gate_inputs}
use Rattle.rules.proofs.Rows.{count_kept, states-kept, sum_kept, width-kept, input-count-kept, component-kept, ahead-kept}
use Rattle.study.specs.declared.Component.{Component}
use Rattle.study.specs.declared.Study.{Study}
use Rattle.study.specs.Joint.{states, state_counts}
use Rattle.study.specs.Places.{component_at, gate_at}
use Rattle.study.specs.Zero.{zero_component}
use Rattle.soundness.specs.Sound.{Sound}

module _ (t : Study) (s : Sound t) where
  pub components-most : t.components ≤ most_components
  components-most = (count_kept most_components t.components s.components).most

  pub gates-most : t.gates ≤ most_gates
  gates-most = (count_kept most_gates t.gates s.gates).most

  pub loads-most : t.loads ≤ most_loads
  loads-most = (count_kept most_loads t.loads s.loads).most

  pub joint-most : product (state_counts t) ≤ most_joint_states
  joint-most = width-kept (product (state_counts t)) s.width

  pub counts-few : length (state_counts t) ≤ t.components
  counts-few = rw (length-take t.components (states t.component)) (min-le_left t.components (length (states t.component)))

  -- every value of the struct has twelve component places
  pub counts-long : length t.component ≡ most_components → length (state_counts t) ≡ t.components
  counts-long e =
      length-take-le t.components (states t.component) (omega (arith, e, components-most, length-map t.component (λ (c : Component). c.states)))

  pub count_at : (k : ℕ) → k < t.components → get_or (state_counts t) k 0 ≡ (component_at t k).states
  count_at k h = get_or-take t.components (states t.component) k 0 h ∙ get_or-map (λ (c : Component). c.states) t.component k zero_component

  pub count-least : (k : ℕ) → k < t.components → fewest_states ≤ get_or (state_counts t) k 0
  count-least k h = rw (count_at k h) (states-kept (component_at t k).states (s.component k h).states).least

  pub count_most : (k : ℕ) → k < t.components → get_or (state_counts t) k 0 ≤ most_states
  count_most k h = rw (count_at k h) (states-kept (component_at t k).states (s.component k h).states).most

  -- the same of state counts that the code holds
  module _ (counts : List ℕ) (same : counts ≡ state_counts t) where
    few : length counts ≤ t.components
    few = rw same counts-few

    pub counts-inside : length counts ≤ most_components
    counts-inside = omega (arith, few, components-most)

    pub counts-small : (k : ℕ) → k < length counts → get_or counts k 0 ≤ most_states
    counts-small k h = rw same (count_most k (omega (arith, few)))

  -- states 1 to 3 of every component place, in use or not, sum to one at most
  pub probabilities-sum : (i : ℕ) → i < most_components → (component_at t i).p1 + (component_at t i).p2 + (component_at t i).p3 ≤ one
  probabilities-sum i less = go (ltb i t.components) refl
    where
      go : (b : Bool) → ltb i t.components ≡ b → (component_at t i).p1 + (component_at t i).p2 + (component_at t i).p3 ≤ one
      go true used =
          let c = component_at t i in
          let rule = (s.component i (ltb-true i t.components used)).sum in
          sum_kept c.p1 c.p2 c.p3 rule
      go false unused =
          subst (λ (c : Component). c.p1 + c.p2 + c.p3 ≤ one) (sym (s.no_component i (ltb-false i t.components unused) less)) (omega arith)

  module _ (i : ℕ) (h : i < t.gates) where
    pub tests-most : (gate_at t i).tests ≤ most_tests
    tests-most = input-count-kept most_tests (gate_at t i).tests (s.gate i h).tests

    pub gate-inputs-most : (gate_at t i).gates ≤ most_gate_inputs
    gate-inputs-most = input-count-kept most_gate_inputs (gate_at t i).gates (s.gate i h).gates

    pub test-component : (j : ℕ) → j < (gate_at t i).tests → get_or (gate_at t i).component j 0 < length (state_counts t)
    test-component j less = component-kept (length (state_counts t)) (get_or (gate_at t i).component j 0) ((s.gate i h).component j less)

    pub input-lower : (j : ℕ) → j < (gate_at t i).gates → get_or (gate_at t i).input j 0 < i
    input-lower j less = ahead-kept i (get_or (gate_at t i).input j 0) ((s.gate i h).input j less)

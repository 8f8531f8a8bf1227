-- The check for 16 decides soundness: no breach is found exactly when every rule of `Sound` is kept. What carries it: the first breach of a
-- list is none exactly when each is none, and so it is for the places of a kind (`PlacesKept`).
use Prim.Native.Nat.{ℕ, ◌<◌, ◌≤◌}
use mathlib.Core.Path.{◌≡◌, refl, sym, subst}
use mathlib.Core.Bool.{true}
use mathlib.Core.List.{List}
use native.Mathlib.Omega.{arith}
use lib.ListN.{length, get_or}
use borrow.Author.Tests.{eqb-true, eq-eqb}
use Rattle.rules.specs.Breach.{refuse}
use Rattle.rules.specs.Limits.{most_components, most_gates, most_loads, most_tests, most_gate_inputs}
use Rattle.rules.specs.Table.{states_fault, no_component_fault, mask_fault, ahead_fault, unsound_fault}
use Rattle.rules.proofs.Kept.{first-kept, first-none, list-kept, list-none, none-none, both-kept}
use Rattle.rules.proofs.Firsts.{places-kept, places-none}
use Rattle.rules.proofs.Rows.{count_kept, input-count-kept, sound-kept, unused-fields, unused-none}
use Rattle.study.specs.declared.Component.{Component}
use Rattle.study.specs.declared.Gate.{Gate}
use Rattle.study.specs.declared.Load.{Load}
use Rattle.study.specs.declared.Study.{Study}
use Rattle.study.specs.Edits.{with_probabilities}
use Rattle.study.specs.Joint.{state_counts}
use Rattle.study.specs.Places.{component_at, gate_at, load_at}
use Rattle.study.specs.Zero.{zero_component, zero_load}
use Rattle.gate_order.specs.Order.{InOrder}
use Rattle.gate_order.proofs.Checked.{order-kept, order-none}
use Rattle.soundness.specs.Sound.{SoundComponent, ZeroBehind, SoundGate, UnusedGate, SoundLoad, Sound}
use Rattle.soundness.specs.Check.{probabilities_fault, component_fault, unused_component_fault, component_place_fault, components_fault}
use Rattle.soundness.specs.Check.{test_place_fault, tests_fault, input_place_fault, gate_inputs_fault, input_places_fault}
use Rattle.soundness.specs.Check.{vote_fault, gate_fault, unused_gate_fault, gate_place_fault, gates_fault}
use Rattle.soundness.specs.Check.{load_fault, unused_load_fault, load_place_fault, loads_fault, front_fault, rest_fault, sound}

-- ---- components

pub probabilities-sound : (c : Component) (p1 p2 p3 : ℕ) → states_fault c.states ≡ 0 → probabilities_fault c.states p1 p2 p3 ≡ 0
    → SoundComponent (with_probabilities p1 p2 p3 c)
unfolding probabilities_fault
probabilities-sound c p1 p2 p3 states none =
    let one = list-kept _ _ none in
    let two = list-kept _ _ one.right in
    let three = both-kept _ _ two.right in
    record { states = states; state1 = one.left; state2 = two.left; state3 = three.left; sum = three.right }

component-kept : (c : Component) → component_fault c ≡ 0 → SoundComponent c
unfolding component_fault
component-kept c e =
    let both = first-kept _ _ e in
    probabilities-sound c c.p1 c.p2 c.p3 both.left both.right

-- and the other way
pub probabilities-none : (c : Component) → SoundComponent c → probabilities_fault c.states c.p1 c.p2 c.p3 ≡ 0
unfolding probabilities_fault
probabilities-none c s =
    list-none _ _ s.state1 (list-none _ _ s.state2 (list-none _ _ s.state3 (list-none _ _ s.sum none-none)))

component-none : (c : Component) → SoundComponent c → component_fault c ≡ 0
unfolding component_fault
component-none c s = first-none _ _ s.states (probabilities-none c s)

no-component-kept : (c : Component) → unused_component_fault c ≡ 0 → c ≡ zero_component
unfolding unused_component_fault
no-component-kept c e =
    let u = unused-fields c.states c.p1 c.p2 c.p3 e in
    λ i. record { states = u.field1 i; p1 = u.field2 i; p2 = u.field3 i; p3 = u.field4 i }

no-component-none : (c : Component) → c ≡ zero_component → unused_component_fault c ≡ 0
unfolding unused_component_fault
no-component-none c e = subst (λ (z : Component). unused_component_fault z ≡ 0) (sym e) (unused-none 0 0 0 0 refl refl refl refl)

-- ---- gates

-- the rules of a gate's inputs, whether the gate is in use or not
record SoundInputs (counts : List ℕ) (i : ℕ) (g : Gate) : Type 0 where
  component : (j : ℕ) → j < g.tests → no_component_fault (length counts) (get_or g.component j 0) ≡ 0
  mask : (j : ℕ) → j < g.tests → mask_fault (get_or counts (get_or g.component j 0) 0) (get_or g.mask j 0) ≡ 0
  input : (j : ℕ) → j < g.gates → ahead_fault i (get_or g.input j 0) ≡ 0
  behind : ZeroBehind g

module _ (counts : List ℕ) (i : ℕ) (g : Gate) where
  inputs_kept : g.tests ≤ most_tests → g.gates ≤ most_gate_inputs → input_places_fault counts i g ≡ 0 → SoundInputs counts i g
  unfolding input_places_fault tests_fault test_place_fault gate_inputs_fault input_place_fault
  inputs_kept tests-most gates-most e =
      let both = first-kept _ _ e in
      let tests = places-kept g.tests most_tests _ _ tests-most both.left in
      let inputs = places-kept g.gates most_gate_inputs _ _ gates-most both.right in
      record {
        component = λ j less. (first-kept _ _ (tests.in_use j less)).left;
        mask = λ j less. (first-kept _ _ (tests.in_use j less)).right;
        input = inputs.in_use;
        behind =
            record {
              component = λ j from less. (unused-fields _ _ 0 0 (tests.behind j from less)).field1;
              mask = λ j from less. (unused-fields _ _ 0 0 (tests.behind j from less)).field2;
              input = λ j from less. (unused-fields _ 0 0 0 (inputs.behind j from less)).field1;
            };
      }

  inputs-none : SoundInputs counts i g → input_places_fault counts i g ≡ 0
  unfolding input_places_fault tests_fault test_place_fault gate_inputs_fault input_place_fault
  inputs-none s =
      first-none _ _
      (places-none g.tests most_tests _ _
      (record {
        in_use = λ j less. first-none _ _ (s.component j less) (s.mask j less);
        behind = λ j from less. unused-none _ _ 0 0 (s.behind.component j from less) (s.behind.mask j from less) refl refl;
      }))
      (places-none g.gates most_gate_inputs _ _
      (record { in_use = s.input; behind = λ j from less. unused-none _ 0 0 0 (s.behind.input j from less) refl refl refl }))

  -- a gate in use keeps its rules, and its inputs stand in order
  record Ordered : Type 0 where
    rules : SoundGate counts i g
    order : InOrder g

  gate-kept : gate_fault counts i g ≡ 0 → Ordered
  unfolding gate_fault vote_fault
  gate-kept e =
      let tests = list-kept _ _ e in
      let gates = list-kept _ _ tests.right in
      let rest = both-kept _ _ gates.right in
      let vote = first-kept _ _ rest.right in
      let tests-most = input-count-kept most_tests g.tests tests.left in
      let inputs = inputs_kept tests-most (input-count-kept most_gate_inputs g.gates gates.left) rest.left in
      record {
        rules =
            record {
              tests = tests.left;
              gates = gates.left;
              component = inputs.component;
              mask = inputs.mask;
              input = inputs.input;
              threshold = vote.right;
              behind = inputs.behind;
            };
        order = order-kept g vote.left;
      }

  gate-none : SoundGate counts i g → InOrder g → gate_fault counts i g ≡ 0
  unfolding gate_fault vote_fault
  gate-none s order =
      let inputs = inputs-none (record { component = s.component; mask = s.mask; input = s.input; behind = s.behind }) in
      let vote = first-none _ _ (order-none g order) s.threshold in
      list-none _ _ s.tests (list-none _ _ s.gates (list-none _ _ inputs (list-none _ _ vote none-none)))

  no-gate-kept : unused_gate_fault counts i g ≡ 0 → UnusedGate g
  unfolding unused_gate_fault
  no-gate-kept e =
      let both = first-kept _ _ e in
      let u = unused-fields g.threshold g.tests g.gates 0 both.left in
      let inputs = inputs_kept (omega (arith, u.field2)) (omega (arith, u.field3)) both.right in
      record { threshold = u.field1; tests = u.field2; gates = u.field3; behind = inputs.behind }

  no-gate-none : UnusedGate g → unused_gate_fault counts i g ≡ 0
  unfolding unused_gate_fault
  no-gate-none u =
      first-none _ _ (unused-none _ _ _ 0 u.threshold u.tests u.gates refl)
      (inputs-none
      (record {
        component = λ j less. absurd (omega arith);
        mask = λ j less. absurd (omega arith);
        input = λ j less. absurd (omega arith);
        behind = u.behind;
      }))

-- ---- loads

load_kept : (gates : ℕ) (l : Load) → load_fault gates l ≡ 0 → SoundLoad gates l
unfolding load_fault
load_kept gates l e =
    let gate = list-kept _ _ e in
    let sizes = both-kept _ _ gate.right in
    record { gate = gate.left; customers = sizes.left; minutes = sizes.right }

load-none : (gates : ℕ) (l : Load) → SoundLoad gates l → load_fault gates l ≡ 0
unfolding load_fault
load-none gates l s = list-none _ _ s.gate (list-none _ _ s.customers (list-none _ _ s.minutes none-none))

no-load-kept : (l : Load) → unused_load_fault l ≡ 0 → l ≡ zero_load
unfolding unused_load_fault
no-load-kept l e =
    let u = unused-fields l.gate l.customers l.minutes 0 e in
    λ i. record { gate = u.field1 i; customers = u.field2 i; minutes = u.field3 i }

no-load-none : (l : Load) → l ≡ zero_load → unused_load_fault l ≡ 0
unfolding unused_load_fault
no-load-none l e = subst (λ (z : Load). unused_load_fault z ≡ 0) (sym e) (unused-none 0 0 0 0 refl refl refl refl)

-- ---- the whole study

pub check-refuses : (t : Study) → sound t ≡ true → Sound t
unfolding sound front_fault rest_fault components_fault gates_fault loads_fault component_place_fault gate_place_fault load_place_fault
check-refuses t e =
    let both = first-kept (front_fault t) (rest_fault t) (eqb-true _ 0 e) in
    let components = list-kept _ _ both.left in
    let gates = list-kept _ _ components.right in
    let loads = both-kept _ _ gates.right in
    let width = list-kept _ _ both.right in
    let places = both-kept _ _ width.right in
    let component = places-kept _ most_components _ _ (count_kept most_components t.components components.left).most loads.right in
    let gate = places-kept _ most_gates _ _ (count_kept most_gates t.gates gates.left).most places.left in
    let load = places-kept _ most_loads _ _ (count_kept most_loads t.loads loads.left).most places.right in
    record {
      components = components.left;
      gates = gates.left;
      loads = loads.left;
      component = λ i less. component-kept (component_at t i) (component.in_use i less);
      no_component = λ i from less. no-component-kept (component_at t i) (component.behind i from less);
      width = width.left;
      gate = λ i less. (gate-kept (state_counts t) i (gate_at t i) (gate.in_use i less)).rules;
      order = λ i less. (gate-kept (state_counts t) i (gate_at t i) (gate.in_use i less)).order;
      no_gate_behind = λ i from less. no-gate-kept (state_counts t) i (gate_at t i) (gate.behind i from less);
      load = λ j less. load_kept t.gates (load_at t j) (load.in_use j less);
      no_load = λ j from less. no-load-kept (load_at t j) (load.behind j from less);
    }

pub check-accepts : (t : Study) → Sound t → sound t ≡ true
unfolding sound front_fault rest_fault components_fault gates_fault loads_fault component_place_fault gate_place_fault load_place_fault
check-accepts t s =
    let component =
    places-none _ most_components _ _
    (record {
      in_use = λ i less. component-none (component_at t i) (s.component i less);
      behind = λ i from less. no-component-none (component_at t i) (s.no_component i from less);
    }) in
    let gate =
    places-none _ most_gates _ _
    (record {
      in_use = λ i less. gate-none (state_counts t) i (gate_at t i) (s.gate i less) (s.order i less);
      behind = λ i from less. no-gate-none (state_counts t) i (gate_at t i) (s.no_gate_behind i from less);
    }) in
    let load =
    places-none _ most_loads _ _
    (record {
      in_use = λ j less. load-none t.gates (load_at t j) (s.load j less);
      behind = λ j from less. no-load-none (load_at t j) (s.no_load j from less);
    }) in
    eq-eqb _ 0
    (first-none (front_fault t) (rest_fault t)
    (list-none _ _ s.components (list-none _ _ s.gates (list-none _ _ s.loads (list-none _ _ component none-none))))
    (list-none _ _ s.width (list-none _ _ gate (list-none _ _ load none-none))))

-- no breach of 16
pub no-unsound : (t : Study) → unsound_fault (sound t) ≡ 0 → Sound t
no-unsound t none = check-refuses t (sound-kept (sound t) none)

pub none-unsound : (t : Study) → Sound t → unsound_fault (sound t) ≡ 0
unfolding refuse
none-unsound t s = rw (check-accepts t s)

-- A component record that is written is read back. What carries it: the probabilities sum to one at most, so that each fits in four bytes.
use Prim.Native.Nat.{ℕ, zero, suc, ◌+◌, ◌≤◌}
use mathlib.Core.Path.{◌≡◌, refl}
use mathlib.Core.List.{[]}
use native.Mathlib.Numerals.{add-one}
use native.Mathlib.Omega.{arith}
use lib.ListN.{get_or}
use Rattle.units.specs.One.{one}
use Rattle.rules.specs.Table.{states_fault, no_state_fault, lacked_state_fault, sum_fault}
use Rattle.rules.proofs.Rows.{sum_kept}
use Rattle.study.specs.declared.Component.{Component}
use Rattle.study.specs.Absent.{absent_component}
use Rattle.study_bytes.specs.Written.{four_bytes_of, component_fields, component_bytes}
use Rattle.reading.proofs.Back.{Back, back-judge, back-judged, back-finished, back-byte, back-word}
use Rattle.component_record.specs.Component.{with_states, with_probability, state_count, probability, component_field, component}
use Rattle.soundness.specs.Sound.{SoundComponent}
use Rattle.round_trip.proofs.Record.{FieldBack, field-none, field_back, given-kept, back-record}

-- a component with its fields below bit k read
abbrev component_to : Component → ℕ → Component
component_to c zero = absent_component
component_to c (suc zero) = with_states c.states absent_component
component_to c (suc (suc zero)) = with_probability 1 c.p1 (component_to c (suc zero))
component_to c (suc (suc (suc zero))) = with_probability 2 c.p2 (component_to c (suc (suc zero)))
component_to c (suc (suc (suc (suc k)))) = c

-- a probability of a state that the component has, where it is not 0
probability-back : (state p : ℕ) (c : Component) → lacked_state_fault c.states state p ≡ 0 → p ≤ one → (p ≡ 0 → ⊥)
    → Back (probability state c) (four_bytes_of p) (with_probability state p c)
unfolding probability
probability-back state p c kept most some =
    back-judge (no_state_fault c.states state) (given-kept _ _ _ kept some) (back-finished (λ q. with_probability state q c) (back-word p (omega arith)))

module _ (c : Component) (s : SoundComponent c) where
  fits : c.p1 + c.p2 + c.p3 ≤ one
  fits = sum_kept c.p1 c.p2 c.p3 s.sum

  fields_back : (k : ℕ) → FieldBack component_field k (component_to c k) (get_or (component_fields c) k []) (component_to c (k + 1))
  unfolding component_field state_count
  fields_back zero =
      field_back component_field 0 (λ n. with_states n absent_component) absent_component.states c.states
      (λ some. back-judged states_fault _ s.states (back-byte c.states))
  fields_back (suc zero) =
      field_back component_field 1 (λ p. with_probability 1 p (component_to c 1)) absent_component.p1 c.p1
      (probability-back 1 c.p1 (component_to c 1) s.state1 (omega (arith, fits)))
  fields_back (suc (suc zero)) =
      field_back component_field 2 (λ p. with_probability 2 p (component_to c 2)) absent_component.p2 c.p2
      (probability-back 2 c.p2 (component_to c 2) s.state2 (omega (arith, fits)))
  fields_back (suc (suc (suc zero))) =
      field_back component_field 3 (λ p. with_probability 3 p (component_to c 3)) absent_component.p3 c.p3
      (probability-back 3 c.p3 (component_to c 3) s.state3 (omega (arith, fits)))
  fields_back (suc (suc (suc (suc k)))) = rw (add-one (suc (suc (suc (suc k))))) (field-none component_field (suc (suc (suc (suc k)))) refl)

  pub component-back : Back component (component_bytes c) c
  unfolding component
  component-back =
      back-judged (λ (c : Component). sum_fault c.p1 c.p2 c.p3) (λ c. c) s.sum
      (back-record component_field (component_fields c) (component_to c) (omega arith) fields_back)

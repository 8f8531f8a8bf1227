-- How many bytes the record of a sound component, gate and load takes at most.
use Prim.Native.Nat.{ℕ, min, ◌+◌, ◌-◌, ◌*◌, ◌<◌, ◌≤◌}
use mathlib.Core.Path.{◌≡◌, refl}
use mathlib.Core.Bool.{Bool, true, false}
use mathlib.Core.List.{List}
use native.Mathlib.Nat.{le_refl}
use native.Mathlib.Omega.{arith}
use lib.Dec.{eqb, ltb}
use lib.ListN.{length}
use borrow.Author.Tests.{eqb-true, eqb-false, ltb-true, ltb-false}
use Rattle.lists.specs.Counting.{sum_over}
use Rattle.text.proofs.Short.{joined_length, lines-short}
use Rattle.rules.specs.Table.{lacked_state_fault}
use Rattle.rules.proofs.Rows.{states-kept, lacked-kept}
use Rattle.study.specs.declared.Component.{Component}
use Rattle.study.specs.declared.Gate.{Gate}
use Rattle.study.specs.declared.Load.{Load}
use Rattle.study.specs.declared.Study.{Study}
use Rattle.study.specs.Absent.{absent_component, absent_gate, absent_load}
use Rattle.study.specs.Places.{gate_at}
use Rattle.soundness.specs.Sound.{SoundComponent, Sound}
use Rattle.soundness.proofs.Ranges.{tests-most, gate-inputs-most, input-lower}
use Rattle.study_bytes.specs.Written.{byte_of, four_bytes_of, field, record_bytes, test_bytes, input_bytes, tests_bytes, inputs_bytes}
use Rattle.study_bytes.specs.Written.{component_fields, gate_fields, load_fields, component_bytes, gate_bytes, load_bytes}
use Rattle.study_bytes.proofs.Fields.{field-most, field-none}

record-long : (fields : List (List ℕ)) → length (record_bytes fields) ≡ 1 + sum_over length fields
unfolding record_bytes
record-long fields = omega (arith, joined_length fields)

-- ---- a component

-- a probability takes four bytes, and none where the component lacks the state
probability-size : (states state p : ℕ) → lacked_state_fault states state p ≡ 0 → length (field 0 p (four_bytes_of p)) ≤ 4 * min (states - state) 1
probability-size states state p kept = go (ltb state states) refl
  where
    go : (b : Bool) → ltb state states ≡ b → length (field 0 p (four_bytes_of p)) ≤ 4 * min (states - state) 1
    go true has = omega (arith, field-most 0 p (four_bytes_of p), ltb-true state states has)
    go false lacks = omega (arith, field-none 0 p (four_bytes_of p) (lacked-kept states state p kept (ltb-false state states lacks)))

pub component-size : (c : Component) → SoundComponent c → length (component_bytes c) ≤ 4 * c.states - 2
unfolding sum_over
component-size c s =
    let states = states-kept c.states s.states in
    omega (
      arith,
      states.least,
      states.most,
      record-long (component_fields c),
      field-most absent_component.states c.states (byte_of c.states),
      field-most absent_component.p1 c.p1 (four_bytes_of c.p1),
      probability-size c.states 2 c.p2 s.state2,
      probability-size c.states 3 c.p3 s.state3,
    )

-- ---- a load

pub load-size : (l : Load) → length (load_bytes l) ≤ 10
unfolding sum_over
load-size l =
    omega (
      arith,
      record-long (load_fields l),
      field-most absent_load.gate l.gate (byte_of l.gate),
      field-most absent_load.customers l.customers (four_bytes_of l.customers),
      field-most absent_load.minutes l.minutes (four_bytes_of l.minutes),
    )

-- ---- a gate

module _ (t : Study) (s : Sound t) (i : ℕ) (h : i < t.gates) where
  -- gate 0 has no gate inputs, for they are lower than their gate
  inputs-size : length (field absent_gate.gates (gate_at t i).gates (inputs_bytes (gate_at t i))) ≤ 32 * min i 1
  unfolding absent_gate
  inputs-size = go (eqb g.gates 0) refl
    where
      g : Gate
      g = gate_at t i

      go : (b : Bool) → eqb g.gates 0 ≡ b → length (field 0 g.gates (inputs_bytes g)) ≤ 32 * min i 1
      go true none = omega (arith, field-none 0 g.gates (inputs_bytes g) (eqb-true g.gates 0 none))
      go false some =
          omega (
            arith,
            field-most 0 g.gates (inputs_bytes g),
            lines-short (input_bytes g) g.gates 1 (λ k less. le_refl 1),
            gate-inputs-most t s i h,
            input-lower t s i h 0 (omega (arith, eqb-false g.gates 0 some)),
          )

  pub gate-size : length (gate_bytes (gate_at t i)) ≤ 27 + 32 * min i 1
  unfolding sum_over
  gate-size =
      let g = gate_at t i in
      omega (
        arith,
        record-long (gate_fields g),
        field-most absent_gate.threshold g.threshold (byte_of g.threshold),
        field-most absent_gate.tests g.tests (tests_bytes g),
        lines-short (test_bytes g) g.tests 2 (λ k less. le_refl 2),
        tests-most t s i h,
        inputs-size,
      )

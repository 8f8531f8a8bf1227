-- A gate record that is written is read back. What carries it: each test and each gate input goes to its own place, and the places behind hold 0 as in a
-- gate that no record has filled.
use Prim.Native.Nat.{ℕ, zero, suc, ◌+◌, ◌<◌, ◌≤◌}
use mathlib.Core.Path.{◌≡◌, refl, sym, ap, subst}
use mathlib.Core.List.{List, [], ◌∷◌}
use native.Mathlib.Numerals.{add-one}
use native.Mathlib.Omega.{arith}
use lib.ListN.{length, get_or}
use Rattle.lists.specs.Rows.{joined}
use Rattle.lists.specs.Tabulate.{tabulate}
use Rattle.rules.specs.Limits.{most_tests, most_gate_inputs}
use Rattle.rules.specs.Table.{inputs_fault, no_component_fault, mask_fault, ahead_fault, threshold_fault}
use Rattle.rules.proofs.Rows.{input-count-kept}
use Rattle.study.specs.declared.Gate.{Gate}
use Rattle.study.specs.Absent.{absent_gate}
use Rattle.gate_order.specs.Inputs.{input_count}
use Rattle.study.specs.Places.{ShapedGate}
use Rattle.study.specs.Zero.{zero_gate}
use Rattle.study_bytes.specs.Written.{test_bytes, input_bytes, gate_fields, gate_bytes}
use Rattle.reading.specs.Fields.{map_bits}
use Rattle.reading.proofs.Back.{Back, back-then, back-judge, back-judged, back-finished, back-byte, back-pieces}
use Rattle.gate_record.specs.Gate.{threshold, inputs_byte, test, tests, input, inputs, gate_field, gate, with_threshold, with_test, with_input}
use Rattle.soundness.specs.Sound.{SoundGate, UnusedGate}
use Rattle.round_trip.proofs.Places.{filled_to, row_to, row_next, row-all}
use Rattle.round_trip.proofs.Record.{FieldBack, field-none, field_back, given-kept, back-record}

abbrev gate_of : ℕ → ℕ → List ℕ → List ℕ → ℕ → List ℕ → Gate
gate_of threshold tests component mask gates input =
    record { threshold = threshold; tests = tests; component = component; mask = mask; gates = gates; input = input }

-- a gate with these counts, of which n tests and m gate inputs are read
abbrev gate_with : Gate → ℕ → ℕ → ℕ → ℕ → Gate
gate_with g tests n gates m =
    gate_of g.threshold tests (row_to most_tests g.component n) (row_to most_tests g.mask n) gates (row_to most_gate_inputs g.input m)

-- a gate with its fields below bit k read
abbrev gate_to : Gate → ℕ → Gate
gate_to g zero = absent_gate
gate_to g (suc zero) = gate_with g 0 0 0 0
gate_to g (suc (suc zero)) = gate_with g g.tests g.tests 0 0
gate_to g (suc (suc (suc k))) = gate_with g g.tests g.tests g.gates g.gates

count-back : (most n : ℕ) → inputs_fault most n ≡ 0 → Back (inputs_byte most) (n ∷ []) n
unfolding inputs_byte
count-back most n kept = back-judged (inputs_fault most) (λ n. n) kept (back-byte n)

-- a place that no record uses holds a gate of zeros
pub unused-gate : (g : Gate) → UnusedGate g → ShapedGate g → g ≡ zero_gate
unfolding zero_gate filled_to
unused-gate g u shaped =
    let component = row-all most_tests g.component shaped.component 0 (λ k from. u.behind.component k (omega (arith, u.tests))) in
    let mask = row-all most_tests g.mask shaped.mask 0 (λ k from. u.behind.mask k (omega (arith, u.tests))) in
    let input = row-all most_gate_inputs g.input shaped.input 0 (λ k from. u.behind.input k (omega (arith, u.gates))) in
    λ i. gate_of (u.threshold i) (u.tests i) (sym component i) (sym mask i) (u.gates i) (sym input i)

module _ (counts : List ℕ) (number : ℕ) (g : Gate) (s : SoundGate counts number g) (shaped : ShapedGate g) where
  tests-room : g.tests ≤ most_tests
  tests-room = input-count-kept most_tests g.tests s.tests

  inputs-room : g.gates ≤ most_gate_inputs
  inputs-room = input-count-kept most_gate_inputs g.gates s.gates

  -- test j goes to its place, and gate input j to its own
  test-placed : (j : ℕ) → j < g.tests
      → with_test j (get_or g.component j 0) (get_or g.mask j 0) (gate_with g g.tests j 0 0) ≡ gate_with g g.tests (j + 1) 0 0
  test-placed j less =
      let inside : j < most_tests = omega (arith, tests-room) in
      let component = row_next most_tests g.component shaped.component j inside in
      let mask = row_next most_tests g.mask shaped.mask j inside in
      λ i. gate_of g.threshold g.tests (component i) (mask i) 0 (row_to most_gate_inputs g.input 0)

  input-placed : (j : ℕ) → j < g.gates
      → with_input j (get_or g.input j 0) (gate_with g g.tests g.tests g.gates j) ≡ gate_with g g.tests g.tests g.gates (j + 1)
  input-placed j less =
      ap (gate_of g.threshold g.tests (row_to most_tests g.component g.tests) (row_to most_tests g.mask g.tests) g.gates)
      (row_next most_gate_inputs g.input shaped.input j (omega (arith, inputs-room)))

  test_back : (j : ℕ) → j < g.tests → Back (test counts j (gate_with g g.tests j 0 0)) (test_bytes g j) (gate_with g g.tests (j + 1) 0 0)
  unfolding test
  test_back j less =
      let component = get_or g.component j 0 in
      subst (Back (test counts j (gate_with g g.tests j 0 0)) (test_bytes g j)) (test-placed j less)
      (back-then _ (back-byte component)
      (back-judge (no_component_fault (length counts) component) (s.component j less)
      (back-judged (mask_fault (get_or counts component 0)) _ (s.mask j less) (back-byte (get_or g.mask j 0)))))

  tests-back : (g.tests ≡ 0 → ⊥) → Back (tests counts (gate_to g 1)) (g.tests ∷ joined (tabulate (test_bytes g) g.tests)) (gate_to g 2)
  unfolding tests
  tests-back some =
      back-then _ (count-back most_tests g.tests (given-kept _ _ _ s.tests some))
      (back-pieces (test counts) (λ (j : ℕ). gate_with g g.tests j 0 0) (test_bytes g) g.tests test_back)

  input_back : (j : ℕ) → j < g.gates
      → Back (input number j (gate_with g g.tests g.tests g.gates j)) (input_bytes g j) (gate_with g g.tests g.tests g.gates (j + 1))
  unfolding input
  input_back j less =
      subst (Back (input number j (gate_with g g.tests g.tests g.gates j)) (input_bytes g j)) (input-placed j less)
      (back-judged (ahead_fault number) _ (s.input j less) (back-byte (get_or g.input j 0)))

  inputs-back : (g.gates ≡ 0 → ⊥) → Back (inputs number (gate_to g 2)) (g.gates ∷ joined (tabulate (input_bytes g) g.gates)) (gate_to g 3)
  unfolding inputs
  inputs-back some =
      back-then _ (count-back most_gate_inputs g.gates (given-kept _ _ _ s.gates some))
      (back-pieces (input number) (λ (j : ℕ). gate_with g g.tests g.tests g.gates j) (input_bytes g) g.gates input_back)

  fields_back : (k : ℕ) → FieldBack (gate_field counts number) k (gate_to g k) (get_or (gate_fields g) k []) (gate_to g (k + 1))
  unfolding gate_field threshold absent_gate zero_gate filled_to
  fields_back zero =
      field_back (gate_field counts number) 0 (λ n. with_threshold n absent_gate) absent_gate.threshold g.threshold
      (λ some. back-finished _ (back-byte g.threshold))
  fields_back (suc zero) = field_back (gate_field counts number) 1 (λ n. gate_with g n n 0 0) absent_gate.tests g.tests tests-back
  fields_back (suc (suc zero)) =
      field_back (gate_field counts number) 2 (λ n. gate_with g g.tests g.tests n n) absent_gate.gates g.gates inputs-back
  fields_back (suc (suc (suc k))) = rw (add-one (suc (suc (suc k)))) (field-none (gate_field counts number) (suc (suc (suc k))) refl)

  -- all places are as they were
  all_placed : gate_to g map_bits ≡ g
  all_placed =
      let component = row-all most_tests g.component shaped.component g.tests s.behind.component in
      let mask = row-all most_tests g.mask shaped.mask g.tests s.behind.mask in
      let input = row-all most_gate_inputs g.input shaped.input g.gates s.behind.input in
      λ i. gate_of g.threshold g.tests (component i) (mask i) g.gates (input i)

  pub gate-back : Back (gate counts number) (gate_bytes g) g
  unfolding gate
  gate-back =
      back-judged (λ (g : Gate). threshold_fault (input_count g) g.threshold) (λ g. g) s.threshold
      (subst (Back _ (gate_bytes g)) all_placed (back-record (gate_field counts number) (gate_fields g) (gate_to g) (omega arith) fields_back))

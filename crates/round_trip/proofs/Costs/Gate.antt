-- A gate record costs no fewer bytes to read than it is written to. What carries it: reading the tests leaves every other field as it was, and so does
-- reading the gate inputs, so that the record is longer by no more than they took.
use Prim.Native.Nat.{ℕ, ◌+◌, ◌*◌, ◌≤◌}
use mathlib.Core.Path.{◌≡◌, refl, sym, ap, subst}
use mathlib.Core.List.{List, ◌∷◌}
use native.Mathlib.Nat.{le_refl}
use native.Mathlib.Omega.{arith}
use lib.Dec.{eqb}
use lib.ListN.{length, get_or}
use Rattle.lists.specs.Rows.{joined}
use Rattle.lists.specs.Tabulate.{tabulate}
use Rattle.rules.specs.Limits.{gate_maps, most_tests, most_gate_inputs}
use Rattle.rules.specs.Table.{inputs_fault, no_component_fault, mask_fault, ahead_fault, threshold_fault}
use Rattle.text.proofs.Short.{lines-short}
use Rattle.study.specs.declared.Gate.{Gate}
use Rattle.study.specs.Absent.{absent_gate}
use Rattle.gate_order.specs.Inputs.{input_count}
use Rattle.study_bytes.specs.Written.{byte_of, record_bytes, test_bytes, input_bytes, gate_fields, gate_bytes}
use Rattle.reading.proofs.Ends.{Ends, ends-then, ends_return, ends-weaker, ends-byte, ends-judge, ends-cond, ends-repeat, ends-fields}
use Rattle.reading.proofs.Held.{Any}
use Rattle.gate_record.specs.Gate.{threshold, inputs_byte, test, tests, input, inputs, gate_field, gate, with_tests, with_gates, with_test, with_input}
use Rattle.round_trip.proofs.Costs.Field.{field-anew}

count-costs : (most n : ℕ) → Ends Any n (inputs_byte most) (λ (v left : ℕ). n ≡ 1 + left)
unfolding inputs_byte
count-costs most n =
    ends-then (ends-byte n (λ none. tt)) (λ v left e. ends-judge (inputs_fault most v) (λ broken. tt) (λ kept. ends_return (omega arith)))

-- g with other tests, and with other gate inputs
abbrev other_tests : Gate → ℕ → Gate → Gate
other_tests g n h =
    record { threshold = g.threshold; tests = n; component = h.component; mask = h.mask; gates = g.gates; input = g.input }

abbrev other_inputs : Gate → ℕ → Gate → Gate
other_inputs g n h =
    record { threshold = g.threshold; tests = g.tests; component = g.component; mask = g.mask; gates = n; input = h.input }

module _ (g : Gate) (n : ℕ) where
  -- j of n tests are read, each from two bytes, and nothing else of g is anew
  record TestsRead (size j : ℕ) (h : Gate) (left : ℕ) : Type 0 where
    same : h ≡ other_tests g n h
    bytes : size ≡ j * 2 + left

  -- j of n gate inputs are read, each from a byte
  record InputsRead (size j : ℕ) (h : Gate) (left : ℕ) : Type 0 where
    same : h ≡ other_inputs g n h
    bytes : size ≡ j + left

  tests-most : (h : Gate) → h ≡ other_tests g n h → length (gate_bytes h) ≤ length (gate_bytes g) + 1 + n * 2
  tests-most h same =
      let pieces = test_bytes (other_tests g n h) in
      subst (λ (x : Gate). length (gate_bytes x) ≤ length (gate_bytes g) + 1 + n * 2) (sym same)
      (omega (arith, field-anew (gate_fields g) 1 absent_gate.tests n (n ∷ joined (tabulate pieces n)), lines-short pieces n 2 (λ k less. le_refl 2)))

  inputs-most : (h : Gate) → h ≡ other_inputs g n h → length (gate_bytes h) ≤ length (gate_bytes g) + 1 + n
  inputs-most h same =
      let pieces = input_bytes (other_inputs g n h) in
      subst (λ (x : Gate). length (gate_bytes x) ≤ length (gate_bytes g) + 1 + n) (sym same)
      (omega (arith, field-anew (gate_fields g) 2 absent_gate.gates n (n ∷ joined (tabulate pieces n)), lines-short pieces n 1 (λ k less. le_refl 1)))

  test-costs : (counts : List ℕ) (size j : ℕ) (h : Gate) (left : ℕ) → TestsRead size j h left
      → Ends Any left (test counts j h) (TestsRead size (j + 1))
  unfolding test
  test-costs counts size j h left read =
      ends-then (ends-byte left (λ none. tt))
      (λ c behind e.
      ends-judge (no_component_fault (length counts) c) (λ broken. tt)
      (λ known.
      ends-then (ends-byte behind (λ none. tt))
      (λ m rest e'.
      ends-judge (mask_fault (get_or counts c 0) m) (λ broken. tt)
      (λ kept. ends_return (record { same = ap (with_test j c m) read.same; bytes = omega (arith, read.bytes) })))))

  input-costs : (number size j : ℕ) (h : Gate) (left : ℕ) → InputsRead size j h left → Ends Any left (input number j h) (InputsRead size (j + 1))
  unfolding input
  input-costs number size j h left read =
      ends-then (ends-byte left (λ none. tt))
      (λ lower rest e.
      ends-judge (ahead_fault number lower) (λ broken. tt)
      (λ kept. ends_return (record { same = ap (with_input j lower) read.same; bytes = omega (arith, read.bytes) })))

module _ (counts : List ℕ) (number n : ℕ) (g : Gate) (left : ℕ) (most : length (gate_bytes g) + left ≤ n) where
  tests-costs : Ends Any left (tests counts g) (λ h rest. length (gate_bytes h) + rest ≤ n)
  unfolding tests
  tests-costs =
      ends-then (count-costs most_tests left)
      (λ v behind e.
      ends-weaker (λ h rest read. omega (arith, tests-most g v h read.same, read.bytes))
      (ends-repeat (TestsRead g v behind) (test counts) v (with_tests v g) (λ j h rest less read. test-costs g v counts behind j h rest read)
      (record { same = refl; bytes = omega arith })))

  inputs-costs : Ends Any left (inputs number g) (λ h rest. length (gate_bytes h) + rest ≤ n)
  unfolding inputs
  inputs-costs =
      ends-then (count-costs most_gate_inputs left)
      (λ v behind e.
      ends-weaker (λ h rest read. omega (arith, inputs-most g v h read.same, read.bytes))
      (ends-repeat (InputsRead g v behind) (input number) v (with_gates v g) (λ j h rest less read. input-costs g v number behind j h rest read)
      (record { same = refl; bytes = omega arith })))

  field-costs : (k : ℕ) → Ends Any left (gate_field counts number k g) (λ h rest. length (gate_bytes h) + rest ≤ n)
  unfolding gate_field threshold
  field-costs k =
      ends-cond (eqb k 0)
      (λ first.
      ends-then (ends-byte left (λ none. tt))
      (λ v rest e. ends_return (omega (arith, field-anew (gate_fields g) 0 absent_gate.threshold v (byte_of v)))))
      (λ later. ends-cond (eqb k 1) (λ second. tests-costs) (λ third. inputs-costs))

pub gate-costs : (counts : List ℕ) (number n : ℕ) → Ends Any n (gate counts number) (λ g left. length (gate_bytes g) + left ≤ n)
unfolding gate absent_gate record_bytes joined
gate-costs counts number n =
    ends-then
    (ends-fields (λ k g left. length (gate_bytes g) + left ≤ n) gate_maps (gate_field counts number) absent_gate (λ none. tt) (λ map stray. tt)
    (λ left e. omega arith) (λ k g left meant h. field-costs counts number n g left h k) (λ k g left h. h))
    (λ g left h. ends-judge (threshold_fault (input_count g) g.threshold) (λ broken. tt) (λ kept. ends_return h))

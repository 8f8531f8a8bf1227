-- A gate record takes at most 59 bytes: the map, the threshold, a count with twelve tests of two, and a count with 31 gate inputs. Gate 0 takes at most
-- 27, for a gate input there is refused.
use Prim.Native.Nat.{ℕ, zero, suc, min, ◌+◌, ◌*◌, ◌^◌, ◌<◌, ◌≤◌}
use mathlib.Core.List.{List}
use native.Mathlib.Nat.{le_refl}
use native.Mathlib.Numerals.{add-one}
use native.Mathlib.Omega.{arith}
use lib.ListN.{length, get_or}
use Rattle.rules.specs.Limits.{gate_maps, most_tests, most_gate_inputs}
use Rattle.rules.specs.Table.{no_component_fault, mask_fault, ahead_fault, threshold_fault}
use Rattle.rules.proofs.Rows.{ahead-kept}
use Rattle.reading.proofs.Ends.{Ends, bit-meant, ends-then, ends_return, ends-weaker, ends-repeat}
use Rattle.reading.proofs.Takes.{Refusal, Takes, judges, ends-row, ends-count, ends-record, takes-byte, takes-return, takes-then, takes-judge, takes-judged}
use Rattle.reading.proofs.Takes.{takes-repeat, takes-weaker}
use Rattle.gate_record.specs.Gate.{threshold, inputs_byte, test, tests, input, inputs, gate_field, gate, with_tests, with_gates}
use Rattle.study.specs.declared.Gate.{Gate}
use Rattle.study.specs.Absent.{absent_gate}
use Rattle.gate_order.specs.Inputs.{input_count}

-- the bytes before bit k of the gate with this number
abbrev before : ℕ → ℕ → Gate → ℕ
before number zero g = 1
before number (suc zero) g = 2
before number (suc (suc zero)) g = 27
before number (suc (suc (suc k))) g = 27 + 32 * min number 1

grows : (number k : ℕ) (g : Gate) → before number k g ≤ before number (k + 1) g
grows number zero g = omega arith
grows number (suc zero) g = omega arith
grows number (suc (suc zero)) g = omega arith
grows number (suc (suc (suc k))) g = rw add-one (le_refl _)

-- once j gate inputs are read, which took so many bytes, the gate is not gate 0
record InputsTaken (number n j left : ℕ) : Type 0 where
  above : min j 1 ≤ number
  bytes : n ≤ j + left

module _ {Short : Type 0} where
  threshold-taken : (g : Gate) → Takes Short 1 (threshold g)
  unfolding threshold
  threshold-taken g = takes-then takes-byte (λ n. takes-return _)

  test-taken : (counts : List ℕ) (j : ℕ) (g : Gate) → Takes Short 2 (test counts j g)
  unfolding test
  test-taken counts j g =
      takes-then takes-byte
      (λ c.
      takes-judge (no_component_fault (length counts) c) (judges _ _ tt)
      (takes-judged (mask_fault (get_or counts c 0)) _ (λ m. judges _ _ tt) takes-byte))

  tests-taken : (counts : List ℕ) (g : Gate) → Takes Short 25 (tests counts g)
  unfolding tests inputs_byte
  tests-taken counts g =
      record {
        takes =
            λ n few.
            ends-then (ends-count _ most_tests tt (λ less. few (omega arith)))
            (λ count left counted.
            ends-weaker (λ h rest taken. omega arith)
            ((takes-weaker {l = 24} (omega arith) (takes-repeat (test counts) count (with_tests count g) (test-taken counts))
            ).takes left (λ less. few (omega arith))));
      }

  inputs-taken : (number : ℕ) (g : Gate) (n : ℕ) → (n < 32 → Short) → Ends (Refusal Short) n (inputs number g) (λ h left. n ≤ 32 * min number 1 + left)
  unfolding inputs inputs_byte input
  inputs-taken number g n few =
      ends-then (ends-count _ most_gate_inputs tt (λ less. few (omega arith)))
      (λ count left counted.
      ends-weaker (λ h rest read. omega arith)
      (ends-repeat (λ j h rest. InputsTaken number left j rest) (input number) count (with_gates count g)
      (λ j h rest less read.
      ends-then (takes-byte.takes rest (λ fewer. few (omega arith)))
      (λ lower behind taken.
      ends-row (ahead_fault number lower) (judges _ _ tt)
      (λ kept. ends_return (record { above = omega (arith, ahead-kept number lower kept); bytes = omega arith }))))
      (record { above = omega arith; bytes = omega arith })))

  field-taken : (counts : List ℕ) (number k : ℕ) (g : Gate) (left : ℕ) → 2 ^ k < gate_maps → (before number k g + left < 59 → Short)
      → Ends (Refusal Short) left (gate_field counts number k g) (λ h rest. before number k g + left ≤ before number (k + 1) h + rest)
  unfolding gate_field
  field-taken counts number zero g left meant few =
      ends-weaker (λ h rest taken. omega arith) ((threshold-taken g).takes left (λ less. few (omega arith)))
  field-taken counts number (suc zero) g left meant few =
      ends-weaker (λ h rest taken. omega arith) ((tests-taken counts g).takes left (λ less. few (omega arith)))
  field-taken counts number (suc (suc zero)) g left meant few =
      ends-weaker (λ h rest taken. omega arith) (inputs-taken number g left (λ less. few (omega arith)))
  field-taken counts number (suc (suc (suc k))) g left meant few = absurd (omega (arith, bit-meant 3 (suc (suc (suc k))) meant))

  pub gate-taken : (counts : List ℕ) (number n : ℕ) → (n < 59 → Short)
      → Ends (Refusal Short) n (gate counts number) (λ g left. n ≤ 27 + 32 * min number 1 + left)
  unfolding gate
  gate-taken counts number n few =
      ends-then
      (ends-record (before number) 59 gate_maps (gate_field counts number) absent_gate (omega arith) (grows number) (field-taken counts number) (omega arith) few)
      (λ g left h.
      ends-row (threshold_fault (input_count g) g.threshold) (judges _ _ tt) (λ kept. ends_return (omega arith)))

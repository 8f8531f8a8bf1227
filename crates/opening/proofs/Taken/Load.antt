-- A load record takes at most ten bytes: the map, the loss gate, and four each for the customers and the minutes.
use Prim.Native.Nat.{ℕ, zero, suc, min, ◌+◌, ◌-◌, ◌*◌, ◌^◌, ◌<◌, ◌≤◌}
use native.Mathlib.Omega.{arith}
use Rattle.rules.specs.Limits.{load_maps, most_customers, most_minutes}
use Rattle.rules.specs.Table.{no_gate_fault, size_fault}
use Rattle.reading.proofs.Ends.{Ends, bit-meant, ends-weaker}
use Rattle.reading.proofs.Takes.{Refusal, Takes, judges, ends-record, takes-byte, takes-word, takes-return, takes-then, takes-judged}
use Rattle.load_record.specs.Load.{loss_gate, size, customers, minutes, load_field, load}
use Rattle.study.specs.declared.Load.{Load}
use Rattle.study.specs.Absent.{absent_load}

-- the bytes before bit k: bit 0 has one, and bits 1 and 2 have four
abbrev before : ℕ → Load → ℕ
before k l = 1 + (4 * min k 3 - 3)

module _ {Short : Type 0} where
  size-taken : (most : ℕ) → Takes Short 4 (size most)
  unfolding size
  size-taken most = takes-judged (size_fault most) (λ n. n) (λ n. judges _ _ tt) takes-word

  gate-taken : (gates : ℕ) (l : Load) → Takes Short 1 (loss_gate gates l)
  unfolding loss_gate
  gate-taken gates l = takes-judged (no_gate_fault gates) _ (λ n. judges _ _ tt) takes-byte

  customers-taken : (l : Load) → Takes Short 4 (customers l)
  unfolding customers
  customers-taken l = takes-then (size-taken most_customers) (λ n. takes-return _)

  minutes-taken : (l : Load) → Takes Short 4 (minutes l)
  unfolding minutes
  minutes-taken l = takes-then (size-taken most_minutes) (λ n. takes-return _)

  field-taken : (gates k : ℕ) (l : Load) (left : ℕ) → 2 ^ k < load_maps → (before k l + left < 10 → Short)
      → Ends (Refusal Short) left (load_field gates k l) (λ b rest. before k l + left ≤ before (k + 1) b + rest)
  unfolding load_field
  field-taken gates zero l left meant few = ends-weaker (λ b rest h. omega arith) ((gate-taken gates l).takes left (λ less. few (omega arith)))
  field-taken gates (suc zero) l left meant few = ends-weaker (λ b rest h. omega arith) ((customers-taken l).takes left (λ less. few (omega arith)))
  field-taken gates (suc (suc zero)) l left meant few = ends-weaker (λ b rest h. omega arith) ((minutes-taken l).takes left (λ less. few (omega arith)))
  field-taken gates (suc (suc (suc k))) l left meant few = absurd (omega (arith, bit-meant 3 (suc (suc (suc k))) meant))

  pub load-taken : (gates : ℕ) → Takes Short 10 (load gates)
  unfolding load
  load-taken gates =
      record {
        takes =
            λ n few.
            ends-record before 10 load_maps (load_field gates) absent_load (omega arith) (λ k l. omega arith) (field-taken gates) (omega arith) few;
      }

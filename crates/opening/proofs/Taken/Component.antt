-- A component record takes at most 4 s - 2 bytes, where s is its state count: the map, the count, and four for each state but "up". What carries it: the
-- state count is read before any probability, and refusal 5 is judged before its field.
use Prim.Native.Nat.{ℕ, min, ◌+◌, ◌-◌, ◌*◌, ◌^◌, ◌<◌, ◌≤◌}
use native.Mathlib.Omega.{arith}
use lib.Dec.{eqb}
use borrow.Author.Tests.{eqb-true, eqb-false, leb-false}
use Rattle.rules.specs.Limits.{fewest_states, most_states, component_maps}
use Rattle.rules.specs.Table.{states_fault, no_state_fault, sum_fault}
use Rattle.rules.proofs.Kept.{Within, refuse-kept}
use Rattle.rules.proofs.Rows.{states-kept}
use Rattle.reading.proofs.Ends.{Ends, bit-meant, ends-then, ends_return, ends-weaker, ends-cond}
use Rattle.reading.proofs.Held.{ends_with}
use Rattle.reading.proofs.Takes.{Refusal, judges, ends-row, ends-record, takes-byte, takes-word}
use Rattle.component_record.specs.Component.{state_count, probability, component_field, component}
use Rattle.study.specs.declared.Component.{Component}
use Rattle.study.specs.Absent.{absent_component}
use Rattle.opening.proofs.Opened.Component.{component-sound}

-- the bytes before bit k: bit 0 has one, and each later bit up to that of the last state has four
abbrev before : ℕ → Component → ℕ
before k c = 1 + (4 * min k c.states - 3)

-- of n bytes a component took no more than its state count allows
pub record Taken (n : ℕ) (c : Component) (left : ℕ) : Type 0 where
  pub states : Within fewest_states most_states c.states
  pub bytes : n ≤ 4 * c.states - 2 + left

module _ {Short : Type 0} where
  field-taken : (k : ℕ) (c : Component) (left : ℕ) → 2 ^ k < component_maps → (before k c + left < 14 → Short)
      → Ends (Refusal Short) left (component_field k c) (λ b rest. before k c + left ≤ before (k + 1) b + rest)
  unfolding component_field state_count probability
  field-taken k c left meant few =
      ends-cond (eqb k 0)
      (λ e.
      let first = eqb-true k 0 e in
      ends-then (takes-byte.takes left (λ less. few (omega arith)))
      (λ s rest h. ends-row (states_fault s) (judges _ _ tt) (λ kept. ends_return (omega (arith, states-kept s kept)))))
      (λ e.
      ends-row (no_state_fault c.states k) (judges _ _ tt)
      (λ kept.
      let some = eqb-false k 0 e in
      let stands = leb-false c.states k (refuse-kept _ _ kept) in
      ends-then (takes-word.takes left (λ less. few (omega (arith, bit-meant 4 k meant)))) (λ p rest h. ends_return (omega arith))))

  pub component-taken : {n : ℕ} → (n < 14 → Short) → Ends (Refusal Short) n component (Taken n)
  unfolding component
  component-taken {n} few =
      ends-weaker (λ c left h. let states = states-kept c.states h.1.states in record { states = states; bytes = omega (arith, h.0) })
      (ends_with
      (ends-then
      (ends-record before 14 component_maps component_field absent_component (omega arith) (λ k c. omega arith) field-taken (omega arith) few)
      (λ c left h. ends-row (sum_fault c.p1 c.p2 c.p3) (judges _ _ tt) (λ kept. ends_return h))) component-sound)

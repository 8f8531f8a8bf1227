-- A component record costs no fewer bytes to read than it is written to. What carries it: a field that is read makes the record longer by no more than
-- it took.
use Prim.Native.Nat.{ℕ, zero, suc, ◌+◌, ◌^◌, ◌<◌, ◌≤◌}
use native.Mathlib.Omega.{arith}
use lib.ListN.{length}
use Rattle.lists.specs.Rows.{joined}
use Rattle.rules.specs.Limits.{component_maps}
use Rattle.rules.specs.Table.{states_fault, no_state_fault, sum_fault}
use Rattle.study.specs.declared.Component.{Component}
use Rattle.study.specs.Absent.{absent_component}
use Rattle.study_bytes.specs.Written.{byte_of, four_bytes_of, record_bytes, component_fields, component_bytes}
use Rattle.reading.proofs.Ends.{Ends, bit-meant, ends-then, ends_return, ends-byte, ends-word, ends-judge, ends-fields}
use Rattle.reading.proofs.Held.{Any}
use Rattle.component_record.specs.Component.{with_probability, state_count, probability, component_field, component}
use Rattle.round_trip.proofs.Costs.Field.{field-anew}

-- a probability, of any state
probability-costs : (state : ℕ) (c : Component) (n left : ℕ) → ((p : ℕ) → length (component_bytes (with_probability state p c)) + left ≤ n + 4)
    → Ends Any left (probability state c) (λ d rest. length (component_bytes d) + rest ≤ n)
unfolding probability
probability-costs state c n left most =
    ends-judge (no_state_fault c.states state) (λ broken. tt)
    (λ kept. ends-then (ends-word left (λ few. tt)) (λ p rest e. ends_return (omega (arith, most p))))

field-costs : (n k : ℕ) (c : Component) (left : ℕ) → 2 ^ k < component_maps → length (component_bytes c) + left ≤ n
    → Ends Any left (component_field k c) (λ d rest. length (component_bytes d) + rest ≤ n)
unfolding component_field state_count
field-costs n zero c left meant h =
    ends-then (ends-byte left (λ none. tt))
    (λ v rest e.
    ends-judge (states_fault v) (λ broken. tt)
    (λ kept. ends_return (omega (arith, field-anew (component_fields c) 0 absent_component.states v (byte_of v)))))
field-costs n (suc zero) c left meant h =
    probability-costs 1 c n left (λ p. omega (arith, field-anew (component_fields c) 1 absent_component.p1 p (four_bytes_of p)))
field-costs n (suc (suc zero)) c left meant h =
    probability-costs 2 c n left (λ p. omega (arith, field-anew (component_fields c) 2 absent_component.p2 p (four_bytes_of p)))
field-costs n (suc (suc (suc zero))) c left meant h =
    probability-costs 3 c n left (λ p. omega (arith, field-anew (component_fields c) 3 absent_component.p3 p (four_bytes_of p)))
field-costs n (suc (suc (suc (suc k)))) c left meant h = absurd (omega (arith, bit-meant 4 (suc (suc (suc (suc k)))) meant))

pub component-costs : (n : ℕ) → Ends Any n component (λ c left. length (component_bytes c) + left ≤ n)
unfolding component record_bytes joined
component-costs n =
    ends-then
    (ends-fields (λ k c left. length (component_bytes c) + left ≤ n) component_maps component_field absent_component (λ none. tt) (λ map stray. tt)
    (λ left e. omega arith) (field-costs n) (λ k c left h. h))
    (λ c left h. ends-judge (sum_fault c.p1 c.p2 c.p3) (λ broken. tt) (λ kept. ends_return h))

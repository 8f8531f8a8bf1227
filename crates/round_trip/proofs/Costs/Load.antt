-- A load record costs no fewer bytes to read than it is written to. What carries it: a field that is read makes the record longer by no more than it took.
use Prim.Native.Nat.{ℕ, ◌+◌, ◌≤◌}
use mathlib.Core.Path.{◌≡◌}
use native.Mathlib.Omega.{arith}
use lib.Dec.{eqb}
use lib.ListN.{length}
use Rattle.lists.specs.Rows.{joined}
use Rattle.rules.specs.Limits.{load_maps, most_customers, most_minutes}
use Rattle.rules.specs.Table.{no_gate_fault, size_fault}
use Rattle.study.specs.declared.Load.{Load}
use Rattle.study.specs.Absent.{absent_load}
use Rattle.study_bytes.specs.Written.{byte_of, four_bytes_of, record_bytes, load_fields, load_bytes}
use Rattle.reading.proofs.Ends.{Ends, ends-then, ends_return, ends-byte, ends-word, ends-judge, ends-cond, ends-fields}
use Rattle.reading.proofs.Held.{Any}
use Rattle.load_record.specs.Load.{loss_gate, size, customers, minutes, load_field, load}
use Rattle.round_trip.proofs.Costs.Field.{field-anew}

size-costs : (most n : ℕ) → Ends Any n (size most) (λ (v left : ℕ). n ≡ 4 + left)
unfolding size
size-costs most n = ends-then (ends-word n (λ few. tt)) (λ v left e. ends-judge (size_fault most v) (λ broken. tt) (λ kept. ends_return e))

field-costs : (gates n k : ℕ) (l : Load) (left : ℕ) → length (load_bytes l) + left ≤ n
    → Ends Any left (load_field gates k l) (λ m rest. length (load_bytes m) + rest ≤ n)
unfolding load_field loss_gate customers minutes
field-costs gates n k l left h =
    ends-cond (eqb k 0)
    (λ first.
    ends-then (ends-byte left (λ none. tt))
    (λ v rest e.
    ends-judge (no_gate_fault gates v) (λ broken. tt)
    (λ kept. ends_return (omega (arith, field-anew (load_fields l) 0 absent_load.gate v (byte_of v))))))
    (λ later.
    ends-cond (eqb k 1)
    (λ second.
    ends-then (size-costs most_customers left)
    (λ v rest e. ends_return (omega (arith, field-anew (load_fields l) 1 absent_load.customers v (four_bytes_of v)))))
    (λ third.
    ends-then (size-costs most_minutes left)
    (λ v rest e. ends_return (omega (arith, field-anew (load_fields l) 2 absent_load.minutes v (four_bytes_of v))))))

pub load-costs : (gates n : ℕ) → Ends Any n (load gates) (λ l left. length (load_bytes l) + left ≤ n)
unfolding load record_bytes joined
load-costs gates n =
    ends-fields (λ k l left. length (load_bytes l) + left ≤ n) load_maps (load_field gates) absent_load (λ none. tt) (λ map stray. tt)
    (λ left e. omega arith) (λ k l left meant h. field-costs gates n k l left h) (λ k l left h. h)

-- A load record that is written is read back. What carries it: customers and minutes are within their limits, so that each fits in four bytes.
use Prim.Native.Nat.{ℕ, zero, suc, ◌+◌, ◌^◌, ◌<◌}
use mathlib.Core.Path.{◌≡◌, refl}
use mathlib.Core.List.{[]}
use native.Mathlib.Numerals.{add-one}
use native.Mathlib.Omega.{arith}
use lib.Dec.{lit<}
use lib.ListN.{get_or}
use Rattle.rules.specs.Limits.{most_customers, most_minutes}
use Rattle.rules.specs.Table.{no_gate_fault, size_fault}
use Rattle.rules.proofs.Rows.{size-kept}
use Rattle.study.specs.declared.Load.{Load}
use Rattle.study.specs.Absent.{absent_load}
use Rattle.study.specs.Edits.{with_customers, with_minutes}
use Rattle.study_bytes.specs.Written.{four_bytes_of, load_fields, load_bytes}
use Rattle.reading.proofs.Back.{Back, back-judged, back-finished, back-byte, back-word}
use Rattle.load_record.specs.Load.{loss_gate, size, customers, minutes, load_field, load}
use Rattle.soundness.specs.Sound.{SoundLoad}
use Rattle.round_trip.proofs.Record.{FieldBack, field-none, field_back, given-kept, back-record}

abbrev with_gate : ℕ → Load → Load
with_gate n l = record { gate = n; customers = l.customers; minutes = l.minutes }

-- a load with its fields below bit k read
abbrev load_to : Load → ℕ → Load
load_to l zero = absent_load
load_to l (suc zero) = with_gate l.gate absent_load
load_to l (suc (suc zero)) = with_customers l.customers (load_to l (suc zero))
load_to l (suc (suc (suc k))) = l

size_back : (most n : ℕ) → most < 2 ^ 32 → size_fault most n ≡ 0 → Back (size most) (four_bytes_of n) n
unfolding size
size_back most n room kept = back-judged (size_fault most) (λ n. n) kept (back-word n (omega (arith, size-kept most n kept)))

module _ (gates : ℕ) (l : Load) (s : SoundLoad gates l) where
  fields_back : (k : ℕ) → FieldBack (load_field gates) k (load_to l k) (get_or (load_fields l) k []) (load_to l (k + 1))
  unfolding load_field loss_gate customers minutes
  fields_back zero =
      field_back (load_field gates) 0 (λ n. with_gate n absent_load) absent_load.gate l.gate
      (λ some. back-judged (no_gate_fault gates) _ (given-kept _ _ _ s.gate some) (back-byte l.gate))
  fields_back (suc zero) =
      field_back (load_field gates) 1 (λ n. with_customers n (load_to l 1)) absent_load.customers l.customers
      (λ some. back-finished _ (size_back most_customers l.customers (lit< tt) s.customers))
  fields_back (suc (suc zero)) =
      field_back (load_field gates) 2 (λ n. with_minutes n (load_to l 2)) absent_load.minutes l.minutes
      (λ some. back-finished _ (size_back most_minutes l.minutes (lit< tt) s.minutes))
  fields_back (suc (suc (suc k))) = rw (add-one (suc (suc (suc k)))) (field-none (load_field gates) (suc (suc (suc k))) refl)

  pub load-back : Back (load gates) (load_bytes l) l
  unfolding load
  load-back = back-record (load_field gates) (load_fields l) (load_to l) (omega arith) fields_back

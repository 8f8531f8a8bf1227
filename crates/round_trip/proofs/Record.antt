-- A record that is written is read back, where each of its fields is. What carries it: bit k of the map stands where field k has bytes.
use Prim.Native.Nat.{ℕ, zero, suc, ◌+◌, ◌*◌, ◌/◌, ◌%◌, ◌^◌, ◌<◌, ◌≤◌}
use mathlib.Core.Path.{◌≡◌, refl, sym, ap, ◌∙◌}
use mathlib.Core.Bool.{Bool, true, false, cond}
use mathlib.Core.List.{List, [], ◌∷◌}
use mathlib.Core.Logic.{⊎_elim}
use native.Mathlib.Nat.{div-one, div-eq_of_lt, pow-suc}
use native.Mathlib.Omega.{arith}
use lib.Dec.{eqb}
use lib.ListN.{length, get_or}
use lib.Pow.{shr-shr, pow_pos}
use borrow.Author.Tests.{eqb-true, eqb-false, lt-leb}
use Rattle.lists.specs.Bits.{digit}
use Rattle.rules.specs.Breach.{refuse, unless_absent}
use Rattle.rules.specs.Table.{stray_fault}
use Rattle.rules.proofs.Kept.{unless-kept}
use Rattle.study_bytes.specs.Written.{field, given, map_of, record_bytes}
use Rattle.reading.specs.Reader.{Reader}
use Rattle.reading.specs.Fields.{field_at, fields, map_bits, map_byte, fields_by_map}
use Rattle.reading.proofs.Back.{Back, back-return, back-then, back-judged, back-byte, back-repeat}

-- ---- the map of some fields

given-few : (x : List ℕ) → given x < 2
given-few [] = omega arith
given-few (b ∷ x) = omega arith

digit-map : (xs : List (List ℕ)) (k : ℕ) → digit (map_of xs) k ≡ given (get_or xs k [])
unfolding map_of
digit-map [] k = ap (λ (n : ℕ). n % 2) (div-eq_of_lt (pow_pos k))
digit-map (x ∷ xs) zero = rw div-one (omega (arith, given-few x))
digit-map (x ∷ xs) (suc k) =
    let map = given x + 2 * map_of xs in
    let half : map / 2 ≡ map_of xs = omega (arith, given-few x) in
    ap (λ (n : ℕ). map / 2 ^ n % 2) (omega arith)
    ∙ ap (λ (n : ℕ). n % 2) (sym (shr-shr map 1 k))
    ∙ ap (λ (n : ℕ). n / 2 ^ k % 2) half
    ∙ digit-map xs k

-- no bit stands behind the last field
map_below : (xs : List (List ℕ)) → map_of xs < 2 ^ length xs
unfolding map_of
map_below [] = omega arith
map_below (x ∷ xs) = rw pow-suc (omega (arith, given-few x, map_below xs))

no_stray : (xs : List (List ℕ)) → stray_fault (2 ^ length xs) (map_of xs) ≡ 0
unfolding refuse
no_stray xs = rw (lt-leb (2 ^ length xs) (map_of xs) (map_below xs))

-- ---- one field

-- The turn of bit k reads the bytes x of a field, and takes the record from a to b. It is told of any map whose bit k stands where there are bytes.
pub record FieldBack {A : Type 0} (read : ℕ → A → Reader A) (k : ℕ) (a : A) (x : List ℕ) (b : A) : Type 0 where
  pub back : (map : ℕ) → digit map k ≡ given x → Back (field_at read map k a) x b

module _ {A : Type 0} (read : ℕ → A → Reader A) (k : ℕ) where
  -- no bytes, and nothing changes
  pub field-none : {a b : A} → b ≡ a → FieldBack read k a [] b
  field-none {a} {b} same = record { back = λ map e. rw (e, same) (back-return a) }

  -- A field that holds its absent value, or is read from its bytes; `put` says what record has a value there.
  pub field_back : (put : ℕ → A) (absent value : ℕ) {n : ℕ} {x : List ℕ} → ((value ≡ absent → ⊥) → Back (read k (put absent)) (n ∷ x) (put value))
      → FieldBack read k (put absent) (field absent value (n ∷ x)) (put value)
  field_back put absent value {n} {x} differs = go (eqb value absent) refl
    where
      go : (t : Bool) → eqb value absent ≡ t → FieldBack read k (put absent) (cond t [] (n ∷ x)) (put value)
      go true e = field-none (ap put (eqb-true value absent e))
      go false e = record { back = λ map stands. rw stands (differs (eqb-false value absent e)) }

-- a field that is given keeps its rule
pub given-kept : (absent value breach : ℕ) → unless_absent absent value breach ≡ 0 → (value ≡ absent → ⊥) → breach ≡ 0
given-kept absent value breach e some =
    ⊎_elim (λ (none : value ≡ absent). absurd (some none)) (λ (kept : breach ≡ 0). kept) (unless-kept absent value breach e)

-- ---- the record

-- field k takes the record from `value k` to `value (k + 1)`
pub back-record : {A : Type 0} (read : ℕ → A → Reader A) (xs : List (List ℕ)) (value : ℕ → A) → length xs ≤ map_bits
    → ((k : ℕ) → FieldBack read k (value k) (get_or xs k []) (value (k + 1)))
    → Back (fields_by_map (2 ^ length xs) read (value 0)) (record_bytes xs) (value map_bits)
unfolding record_bytes map_byte
back-record read xs value few on =
    back-then (λ map. fields read map (value 0)) (back-judged (stray_fault (2 ^ length xs)) (λ map. map) (no_stray xs) (back-byte (map_of xs)))
    (back-repeat (field_at read (map_of xs)) value xs map_bits (λ k less. (on k).back (map_of xs) (digit-map xs k)) few)

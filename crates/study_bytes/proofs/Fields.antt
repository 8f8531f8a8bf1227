-- Laws of fields: what is written of one, how long it is at most, and its bit in the map.
use Prim.Native.Nat.{ℕ, ◌≤◌}
use mathlib.Core.Path.{◌≡◌, refl, sym, ap, ◌∙◌}
use mathlib.Core.Bool.{Bool, true, false, not, cond}
use mathlib.Core.List.{List, [], ◌∷◌, ◌++◌}
use native.Mathlib.Nat.{le_refl}
use native.Mathlib.Omega.{arith}
use lib.Dec.{eqb}
use lib.ListN.{length}
use borrow.Author.Tests.{eq-eqb, eqb-true, not-true, not-false}
use Rattle.lists.specs.Counting.{truth}
use Rattle.lists.specs.Rows.{joined}
use Rattle.lists.specs.Tabulate.{tabulate}
use Rattle.study_bytes.specs.Written.{byte_of, four_bytes_of, field, given}

-- the bit of a field stands where the field is given
pub record Bit (bytes : List ℕ) (is-given : Bool) : Type 0 where
  pub stands : given bytes ≡ truth is-given

-- ---- where code has judged whether the field is given

module _ (absent value : ℕ) {is-given : Bool} (judged : is-given ≡ not (eqb value absent)) where
  pub field-given : (x : List ℕ) → is-given ≡ true → field absent value x ≡ x
  field-given x is = rw (not-true (eqb value absent) (sym judged ∙ is)) refl

  pub field-left-out : (x : List ℕ) → is-given ≡ false → field absent value x ≡ []
  field-left-out x is = rw (not-false (eqb value absent) (sym judged ∙ is)) refl

  pub field-bit : (b : ℕ) (x : List ℕ) → Bit (field absent value (b ∷ x)) is-given
  field-bit b x = record { stands = go (eqb value absent) ∙ ap truth (sym judged) }
    where
      go : (t : Bool) → given (cond t [] (b ∷ x)) ≡ truth (not t)
      go true = refl
      go false = refl

  pub byte-bit : Bit (field absent value (byte_of value)) is-given
  byte-bit = field-bit value []

  pub number_bit : Bit (field absent value (four_bytes_of value)) is-given
  number_bit = field-bit _ _

-- ---- a count, and what it counts

-- where the count is absent there is nothing behind it
pub field-counted : (n : ℕ) (f : ℕ → List ℕ) → field 0 n (n ∷ joined (tabulate f n)) ≡ field 0 n (byte_of n) ++ joined (tabulate f n)
unfolding joined tabulate
field-counted n f = go (eqb n 0) refl
  where
    go : (b : Bool) → eqb n 0 ≡ b → cond b [] (n ∷ joined (tabulate f n)) ≡ cond b [] (byte_of n) ++ joined (tabulate f n)
    go true none = ap (λ (k : ℕ). joined (tabulate f k)) (sym (eqb-true n 0 none))
    go false some = refl

-- ---- how long it is

pub field-most : (absent value : ℕ) (x : List ℕ) → length (field absent value x) ≤ length x
field-most absent value x = go (eqb value absent)
  where
    go : (t : Bool) → length (cond t [] x) ≤ length x
    go true = omega arith
    go false = le_refl _

pub field-none : (absent value : ℕ) (x : List ℕ) → value ≡ absent → length (field absent value x) ≡ 0
field-none absent value x same = rw (eq-eqb value absent same) refl

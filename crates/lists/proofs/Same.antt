-- What carries a loop that compares two lists of the same length: comparing what is left tells, with what was found, whether they are the same.
use Prim.Native.Nat.{ℕ, ◌+◌, ◌<◌, ◌≤◌}
use mathlib.Core.Path.{◌≡◌, refl, sym, ◌∙◌}
use mathlib.Core.Bool.{Bool, true, ◌&&◌, and_assoc, and-true}
use mathlib.Core.List.{List}
use native.Mathlib.Numerals.{add-one}
use native.Mathlib.Omega.{arith}
use lib.Dec.{eqb}
use lib.ListN.{length, get_or, drop, drop_of_length-le}
use lib.Seq.{drop-cons}
use Rattle.lists.specs.Rows.{same}

-- The places below i are compared; they are alike or not.
pub record SameLeft (x y : List ℕ) (i : ℕ) (alike : Bool) : Type 0 where
  pub inside : i ≤ length x
  pub even : length x ≡ length y
  pub left : (alike && same (drop i x) (drop i y)) ≡ same x y

module _ {x y : List ℕ} where
  pub same_start : length x ≡ length y → SameLeft x y 0 true
  same_start e = record { inside = omega arith; even = e; left = refl }

  pub same_more : {i : ℕ} {alike : Bool} → SameLeft x y i alike → i < length x → SameLeft x y (i + 1) (alike && eqb (get_or x i 0) (get_or y i 0))
  unfolding same
  same_more {i} {alike} l h =
      let split-x = drop-cons x i 0 h in
      let split-y = drop-cons y i 0 (omega (arith, l.even)) in
      record {
        inside = omega arith;
        even = l.even;
        left = rw (add-one, and_assoc) (rw (split-x, split-y) at l.left);
      }

  pub same-done : {i : ℕ} {alike : Bool} → SameLeft x y i alike → length x ≤ i → alike ≡ same x y
  unfolding same
  same-done {i} {alike} l h =
      let none-x = drop_of_length-le x {i = i} h in
      let none-y = drop_of_length-le y {i = i} (omega (arith, l.even)) in
      sym (and-true alike) ∙ rw (none-x, none-y) at l.left

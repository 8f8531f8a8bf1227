-- What carries a loop that fills an array from the front: what stands in front of i is the front of the list that is due.
use Prim.Native.Nat.{ℕ, ◌+◌, ◌<◌, ◌≤◌}
use mathlib.Core.Path.{◌≡◌, refl, sym, ap, ◌∙◌}
use mathlib.Core.List.{List, [], ◌∷◌, ◌++◌}
use native.Mathlib.Numerals.{add-one}
use native.Mathlib.Omega.{arith}
use lib.ListN.{length, get_or, take, set, length-set}
use lib.Seq.{take_all, take-suc, take-suc-set}

-- The places below i of r hold what l has there.
pub record Filling {A : Type 0} (l : List A) (i : ℕ) (r : List A) : Type 0 where
  pub inside : i ≤ length l
  pub long : length r ≡ length l
  pub front : take i r ≡ take i l

module _ {A : Type 0} {l : List A} where
  pub filling-start : {r : List A} → length r ≡ length l → Filling l 0 r
  filling-start e = record { inside = omega arith; long = e; front = refl }

  pub filling-more : {i : ℕ} {r : List A} (d : A) → Filling l i r → i < length l → Filling l (i + 1) (set r i (get_or l i d))
  filling-more {i} {r} d f h =
      record {
        inside = omega arith;
        long = length-set r i (get_or l i d) ∙ f.long;
        front =
            rw add-one
            (take-suc-set r i (get_or l i d) (omega (arith, f.long)) ∙ ap (λ (x : List A). x ++ (get_or l i d ∷ [])) f.front ∙ sym (take-suc l i d h));
      }

  pub filling-done : {i : ℕ} {r : List A} → Filling l i r → length l ≤ i → r ≡ l
  filling-done {i} {r} f h = sym (take_all i r (omega (arith, f.long))) ∙ f.front ∙ take_all i l h

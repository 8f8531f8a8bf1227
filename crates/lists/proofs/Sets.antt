-- Laws of a list with one element anew, wherever it is read.
use Prim.Native.Nat.{ℕ, ◌<◌}
use mathlib.Core.Path.{◌≡◌, refl, sym, ap, ◌∙◌}
use mathlib.Core.Bool.{Bool, true, false, cond}
use mathlib.Core.List.{List}
use native.Mathlib.Decide.{dec_lt}
use native.Mathlib.Omega.{arith}
use lib.Dec.{eqb}
use lib.ListN.{length, get_or, set}
use lib.Seq.{get_or-set_same, get_or-set_other, set_out}
use borrow.Author.Tests.{eqb-true, eqb-false}

module _ {A : Type 0} (l : List A) (i : ℕ) (a d : A) where
  -- what held of every element, and holds of the new one where it stands, holds of every element
  pub set_keeps : (P : A → Type 0) (k : ℕ) → P (get_or l k d) → (k ≡ i → P a) → P (get_or (set l i a) k d)
  set_keeps P k old new = go (eqb k i) refl
    where
      at_place : k ≡ i → Dec (i < length l) → P (get_or (set l i a) k d)
      at_place same (yes h) = rw (same, get_or-set_same l i a d h) (new same)
      at_place same (no h) = rw (set_out l i a (omega arith)) old

      go : (b : Bool) → eqb k i ≡ b → P (get_or (set l i a) k d)
      go true e = at_place (eqb-true k i e) (dec_lt i (length l))
      go false e = rw (get_or-set_other l i k a d (eqb-false k i e)) old

  -- a column of numbers after one of them is written
  pub set-column : (f : A → ℕ) (n : ℕ) → i < length l → f a ≡ n → (k : ℕ) → f (get_or (set l i a) k d) ≡ cond (eqb k i) n (f (get_or l k d))
  set-column f n h e k = go (eqb k i) refl
    where
      go : (b : Bool) → eqb k i ≡ b → f (get_or (set l i a) k d) ≡ cond b n (f (get_or l k d))
      go true same = ap (λ (x : ℕ). f (get_or (set l i a) x d)) (eqb-true k i same) ∙ ap f (get_or-set_same l i a d h) ∙ e
      go false other = ap f (get_or-set_other l i k a d (eqb-false k i other))

  -- a column that the new element does not change
  pub set-column-kept : (f : A → ℕ) → f a ≡ f (get_or l i d) → (k : ℕ) → f (get_or (set l i a) k d) ≡ f (get_or l k d)
  set-column-kept f e k =
      set_keeps (λ (x : A). f x ≡ f (get_or l k d)) k refl (λ same. e ∙ ap (λ (x : ℕ). f (get_or l x d)) (sym same))

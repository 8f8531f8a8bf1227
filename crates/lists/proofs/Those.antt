-- Laws of those elements of a list that take part.
use Prim.Native.Nat.{ℕ, zero, suc, ◌<◌}
use mathlib.Core.Path.{◌≡◌, refl, sym, ◌∙◌}
use mathlib.Core.Bool.{Bool, true, false, cond, false≢true}
use mathlib.Core.List.{List, [], ◌∷◌}
use native.Mathlib.Nat.{le_of_suc-le-suc}
use native.Mathlib.Omega.{arith}
use lib.ListN.{length, get_or}
use Rattle.lists.specs.Counting.{those}
use Rattle.lists.proofs.Elements.{Every}

module _ {A : Type 0} (takes_part : A → Bool) (z : A) where
  -- where none takes part, no element does
  none-takes : (l : List A) → those takes_part l ≡ [] → (i : ℕ) → i < length l → takes_part (get_or l i z) ≡ true → ⊥
  unfolding those
  none-takes [] none i h takes = omega arith
  none-takes (a ∷ l) none i h takes = go (takes_part a) refl i h takes none (none-takes l)
    where
      go : (b : Bool) → takes_part a ≡ b → (i : ℕ) → i < length (a ∷ l) → takes_part (get_or (a ∷ l) i z) ≡ true
          → cond b (a ∷ those takes_part l) (those takes_part l) ≡ []
          → (those takes_part l ≡ [] → (i : ℕ) → i < length l → takes_part (get_or l i z) ≡ true → ⊥) → ⊥
      go true e i h takes none behind = let same : ◌≡◌ {A = ℕ} 0 1 = cc in omega arith
      go false e zero h takes none behind = false≢true (sym e ∙ takes)
      go false e (suc i) h takes none behind = behind none i (le_of_suc-le-suc h) takes

  -- where one takes part, any element that does is that one
  pub only_one : (l : List A) (one : A) → those takes_part l ≡ one ∷ [] → (i : ℕ) → i < length l → takes_part (get_or l i z) ≡ true → get_or l i z ≡ one
  unfolding those
  only_one [] one only i h takes = absurd (omega arith)
  only_one (a ∷ l) one only i h takes = go (takes_part a) refl i h takes only (only_one l one)
    where
      go : (b : Bool) → takes_part a ≡ b → (i : ℕ) → i < length (a ∷ l) → takes_part (get_or (a ∷ l) i z) ≡ true
          → cond b (a ∷ those takes_part l) (those takes_part l) ≡ one ∷ []
          → (those takes_part l ≡ one ∷ [] → (i : ℕ) → i < length l → takes_part (get_or l i z) ≡ true → get_or l i z ≡ one) → get_or (a ∷ l) i z ≡ one
      go true e zero h takes only behind = cc
      go true e (suc i) h takes only behind =
          let none : those takes_part l ≡ [] = cc in
          absurd (none-takes l none i (le_of_suc-le-suc h) takes)
      go false e zero h takes only behind = absurd (false≢true (sym e ∙ takes))
      go false e (suc i) h takes only behind = behind only i (le_of_suc-le-suc h) takes

-- two tests that agree on every element of a list have the same ones take part
pub those-alike : {A : Type 0} (f g : A → Bool) (d : A) (l : List A) → Every (λ (x : A). f x ≡ g x) d l → those f l ≡ those g l
unfolding those
those-alike f g d [] agree = refl
those-alike f g d (x ∷ l) agree = rw (agree 0 (omega arith), those-alike f g d l (λ k h. agree (suc k) (omega arith))) refl

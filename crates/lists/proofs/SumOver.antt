-- Laws of sums over the elements of a list: each by induction over the list.
use Prim.Native.Nat.{ℕ, suc, ◌+◌, ◌*◌, ◌≤◌}
use mathlib.Core.Path.{◌≡◌, refl, sym, ap₂, ◌∙◌}
use mathlib.Core.Bool.{Bool, true, false, not, cond}
use mathlib.Core.List.{List, [], ◌∷◌, ◌++◌, map}
use native.Mathlib.Nat.{mul-zero}
use native.Mathlib.Omega.{arith}
use lib.ListN.{length}
use Rattle.lists.specs.Counting.{counted, those, sum_over}
use Rattle.lists.proofs.Elements.{Every}

-- ---- numbers that count or not

counted_none : (b : Bool) → counted b 0 ≡ 0
counted_none true = refl
counted_none false = refl

pub counted-most : (b : Bool) (n : ℕ) → counted b n ≤ n
counted-most true n = omega arith
counted-most false n = omega arith

pub counted-ordered : {m n : ℕ} (b : Bool) → m ≤ n → counted b m ≤ counted b n
counted-ordered true h = h
counted-ordered false h = omega arith

-- it counts on one side or on the other
pub counted-parted : (b : Bool) (n : ℕ) → counted (not b) n + counted b n ≡ n
counted-parted true n = omega arith
counted-parted false n = omega arith

pub counted-scaled : (b : Bool) (k n : ℕ) → counted b (k * n) ≡ k * counted b n
counted-scaled true k n = refl
counted-scaled false k n = sym (mul-zero k)

-- ---- sums over a list

module _ {A : Type 0} where
  -- terms that are the same for each element; d stands past the end
  pub sum-over-alike : (f g : A → ℕ) (d : A) (l : List A) → Every (λ (x : A). f x ≡ g x) d l → sum_over f l ≡ sum_over g l
  unfolding sum_over
  sum-over-alike f g d [] same = refl
  sum-over-alike f g d (x ∷ l) same =
      ap₂ (λ (m n : ℕ). m + n) (same 0 (omega arith)) (sum-over-alike f g d l (λ k h. same (suc k) (omega arith)))

  pub sum-over-append : (f : A → ℕ) (l m : List A) → sum_over f (l ++ m) ≡ sum_over f l + sum_over f m
  unfolding sum_over
  sum-over-append f [] m = omega arith
  sum-over-append f (x ∷ l) m = omega (arith, sum-over-append f l m)

  pub sum-over-scaled : (k : ℕ) (f : A → ℕ) (l : List A) → sum_over (λ (x : A). k * f x) l ≡ k * sum_over f l
  unfolding sum_over
  sum-over-scaled k f [] = sym (mul-zero k)
  sum-over-scaled k f (x ∷ l) = omega (arith, sum-over-scaled k f l)

  pub sum-over-none : (l : List A) → sum_over (λ (x : A). 0) l ≡ 0
  unfolding sum_over
  sum-over-none [] = refl
  sum-over-none (x ∷ l) = omega (arith, sum-over-none l)

  -- so many terms of at most so much
  pub sum-over-most : (f : A → ℕ) (most : ℕ) → ((x : A) → f x ≤ most) → (l : List A) → sum_over f l ≤ length l * most
  unfolding sum_over
  sum-over-most f most each [] = omega arith
  sum-over-most f most each (x ∷ l) = omega (arith, each x, sum-over-most f most each l)

  sum-over-added : (f g : A → ℕ) (l : List A) → sum_over (λ (x : A). f x + g x) l ≡ sum_over f l + sum_over g l
  unfolding sum_over
  sum-over-added f g [] = refl
  sum-over-added f g (x ∷ l) = omega (arith, sum-over-added f g l)

  pub sum-over-counted : (b : Bool) (test : A → Bool) (f : A → ℕ) (l : List A)
      → sum_over (λ (x : A). counted (test x) (counted b (f x))) l ≡ counted b (sum_over (λ (x : A). counted (test x) (f x)) l)
  sum-over-counted true test f l = refl
  sum-over-counted false test f l = (λ i. sum_over (λ (x : A). counted_none (test x) i) l) ∙ sum-over-none l

  -- the sum over those that take part, with every element in step
  pub sum-over-those : (takes_part : A → Bool) (f : A → ℕ) (l : List A)
      → sum_over f (those takes_part l) ≡ sum_over (λ (x : A). counted (takes_part x) (f x)) l
  unfolding those sum_over
  sum-over-those takes_part f [] = refl
  sum-over-those takes_part f (x ∷ l) = rw (sym (sum-over-those takes_part f l)) (go (takes_part x))
    where
      go : (b : Bool) → sum_over f (cond b (x ∷ those takes_part l) (those takes_part l)) ≡ counted b (f x) + sum_over f (those takes_part l)
      go true = refl
      go false = omega arith

module _ {A B : Type 0} where
  pub sum-over-map : (f : B → ℕ) (g : A → B) (l : List A) → sum_over f (map g l) ≡ sum_over (λ (x : A). f (g x)) l
  unfolding sum_over
  sum-over-map f g [] = refl
  sum-over-map f g (x ∷ l) = omega (arith, sum-over-map f g l)

  -- the order of two sums does not matter
  pub sum-over-swapped : (f : A → B → ℕ) (l : List A) (m : List B)
      → sum_over (λ (x : A). sum_over (f x) m) l ≡ sum_over (λ (y : B). sum_over (λ (x : A). f x y) l) m
  unfolding sum_over
  sum-over-swapped f [] m = sym (sum-over-none m)
  sum-over-swapped f (x ∷ l) m =
      omega (arith, sum-over-swapped f l m, sum-over-added (f x) (λ (y : B). sum_over (λ (x : A). f x y) l) m)

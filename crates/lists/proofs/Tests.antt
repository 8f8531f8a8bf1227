-- What the tests over lists and over the numbers below n tell, and what makes them true.
use Prim.Native.Nat.{ℕ, zero, suc, ◌<◌}
use mathlib.Core.Path.{◌≡◌, refl}
use mathlib.Core.Bool.{Bool, true, false≢true, and-eq-true_iff}
use mathlib.Core.List.{List, [], ◌∷◌}
use mathlib.Core.Logic.{⊎_elim}
use native.Mathlib.Nat.{eq-or-lt_of_le, not-suc-le-zero, le_of_suc-le-suc}
use native.Mathlib.Omega.{arith}
use lib.Dec.{eqb}
use borrow.Author.Tests.{eqb-true, eq-eqb}
use Rattle.lists.specs.Counting.{all_below}
use Rattle.lists.specs.Rows.{same}

-- ---- a test of every number below n

pub all-below-true : (f : ℕ → Bool) (n : ℕ) → all_below f n ≡ true → (k : ℕ) → k < n → f k ≡ true
unfolding all_below
all-below-true f zero e k h = absurd (not-suc-le-zero h)
all-below-true f (suc n) e k h =
    let both = (and-eq-true_iff (all_below f n) (f n)).0 e in
    ⊎_elim (λ (last : k ≡ n). rw last both.1) (λ (lower : k < n). all-below-true f n both.0 k lower) (eq-or-lt_of_le (le_of_suc-le-suc h))

pub true-all-below : (f : ℕ → Bool) (n : ℕ) → ((k : ℕ) → k < n → f k ≡ true) → all_below f n ≡ true
unfolding all_below
true-all-below f zero each = refl
true-all-below f (suc n) each = rw (true-all-below f n (λ k h. each k (omega arith))) (each n (omega arith))

-- ---- the same numbers

pub same_true : (x y : List ℕ) → same x y ≡ true → x ≡ y
unfolding same
same_true [] [] e = refl
same_true [] (n ∷ y) e = absurd (false≢true e)
same_true (m ∷ x) [] e = absurd (false≢true e)
same_true (m ∷ x) (n ∷ y) e =
    let both = (and-eq-true_iff (eqb m n) (same x y)).0 e in
    λ i. eqb-true m n both.0 i ∷ same_true x y both.1 i

pub true_same : (x : List ℕ) → same x x ≡ true
unfolding same
true_same [] = refl
true_same (m ∷ x) = rw (eq-eqb m m refl) (true_same x)

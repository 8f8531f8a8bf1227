-- Laws of sums over the numbers below n: each by induction over n.
use Prim.Native.Nat.{ℕ, zero, suc, ◌+◌, ◌*◌, ◌<◌, ◌≤◌}
use mathlib.Core.Path.{◌≡◌, refl, sym, ap}
use mathlib.Core.Logic.{⊎_elim}
use native.Mathlib.Nat.{eq-or-lt_of_le, le_of_suc-le-suc, not-suc-le-zero, zero-mul}
use native.Mathlib.Omega.{arith}
use Rattle.lists.specs.Counting.{sum}

pub sum-scaled : (f : ℕ → ℕ) (m n : ℕ) → sum (λ (k : ℕ). f k * m) n ≡ sum f n * m
unfolding sum
sum-scaled f m zero = sym (zero-mul m)
sum-scaled f m (suc n) = omega (arith, sum-scaled f m n)

pub sum_added : (f g : ℕ → ℕ) (n : ℕ) → sum (λ (k : ℕ). f k + g k) n ≡ sum f n + sum g n
unfolding sum
sum_added f g zero = refl
sum_added f g (suc n) = omega (arith, sum_added f g n)

pub sum-most : (f g : ℕ → ℕ) (n : ℕ) → ((k : ℕ) → k < n → f k ≤ g k) → sum f n ≤ sum g n
unfolding sum
sum-most f g zero most = omega arith
sum-most f g (suc n) most = omega (arith, sum-most f g n (λ k h. most k (omega arith)), most n (omega arith))

-- so many terms of at most so much
pub sum-limit : (f : ℕ → ℕ) (most n : ℕ) → ((k : ℕ) → k < n → f k ≤ most) → sum f n ≤ n * most
unfolding sum
sum-limit f most zero each = omega arith
sum-limit f most (suc n) each = omega (arith, sum-limit f most n (λ k h. each k (omega arith)), each n (omega arith))

-- no first few terms have a larger sum than all
pub sum-front : (f : ℕ → ℕ) (m n : ℕ) → m ≤ n → sum f m ≤ sum f n
unfolding sum
sum-front f m zero h = let none : m ≡ 0 = omega arith in omega (arith, ap (sum f) none)
sum-front f m (suc n) h =
    ⊎_elim (λ (all : m ≡ suc n). omega (arith, ap (sum f) all)) (λ (less : m < suc n). omega (arith, sum-front f m n (le_of_suc-le-suc less)))
    (eq-or-lt_of_le h)

-- no term is above the sum
pub term-most : (f : ℕ → ℕ) (n k : ℕ) → k < n → f k ≤ sum f n
unfolding sum
term-most f zero k h = absurd (not-suc-le-zero h)
term-most f (suc n) k h =
    ⊎_elim (λ (last : k ≡ n). omega (arith, ap f last)) (λ (lower : k < n). omega (arith, term-most f n k lower))
    (eq-or-lt_of_le (le_of_suc-le-suc h))

sum-none : (f : ℕ → ℕ) (n : ℕ) → ((k : ℕ) → k < n → f k ≡ 0) → sum f n ≡ 0
unfolding sum
sum-none f zero none = refl
sum-none f (suc n) none = omega (arith, sum-none f n (λ k h. none k (omega arith)), none n (omega arith))

-- only the term of k counts
pub sum-only : (f : ℕ → ℕ) (n k : ℕ) → k < n → ((j : ℕ) → (j ≡ k → ⊥) → f j ≡ 0) → sum f n ≡ f k
unfolding sum
sum-only f zero k h others = absurd (not-suc-le-zero h)
sum-only f (suc n) k h others =
    ⊎_elim (λ (last : k ≡ n). omega (arith, ap f last, sum-none f n (λ j less. others j (λ same. omega arith))))
    (λ (lower : k < n). omega (arith, sum-only f n k lower others, others n (λ same. omega arith))) (eq-or-lt_of_le (le_of_suc-le-suc h))

-- terms that are the same below n
pub sum_alike : (f g : ℕ → ℕ) (n : ℕ) → ((k : ℕ) → k < n → f k ≡ g k) → sum f n ≡ sum g n
unfolding sum
sum_alike f g zero same = refl
sum_alike f g (suc n) same = omega (arith, sum_alike f g n (λ k h. same k (omega arith)), same n (omega arith))

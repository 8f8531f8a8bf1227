-- Sums and tests over the numbers below n and over lists, those of a list that take part, and the number that a truth value counts as.
use Rattle.std.specs.Prelude.{ℕ, zero, suc, ◌+◌, Bool, true, false, ◌&&◌, cond, List, [], ◌∷◌}

-- f 0 + f 1 + .. , n terms
unfoldable pub sum : (ℕ → ℕ) → ℕ → ℕ
sum f zero = 0
sum f (suc n) = sum f n + f n

-- f holds of every number below n
unfoldable pub all_below : (ℕ → Bool) → ℕ → Bool
all_below f zero = true
all_below f (suc n) = all_below f n && f n

-- 1 for true, 0 for false
abbrev pub truth : Bool → ℕ
truth true = 1
truth false = 0

-- how many of f 0, f 1, .. , n of them, are true
unfoldable pub count_true : (ℕ → Bool) → ℕ → ℕ
unfolding sum
count_true f n = sum (λ (j : ℕ). truth (f j)) n

-- n where it counts, else 0
abbrev pub counted : Bool → ℕ → ℕ
counted true n = n
counted false n = 0

-- those elements of a list that take part
unfoldable pub those : {A : Type 0} → (A → Bool) → List A → List A
those takes_part [] = []
those takes_part (x ∷ l) = cond (takes_part x) (x ∷ those takes_part l) (those takes_part l)

-- the sum of f over the elements of a list
unfoldable pub sum_over : {A : Type 0} → (A → ℕ) → List A → ℕ
sum_over f [] = 0
sum_over f (x ∷ l) = f x + sum_over f l

-- Lists read from the front: a sum over the elements is the sum of what stands at each place, and what is left behind an element.
use Rattle.std.proofs.Common.{ℕ, zero, suc, ◌+◌, ◌<◌, ◌≡◌, ◌∙◌, refl, sym, ap, List, [], ◌∷◌, add-one, arith, length, get_or, drop, drop-cons, length-drop}
use Rattle.std.proofs.lemmas.List.Sums.{sum_by-cons}
use Rattle.std.specs.List.{sum_by}
use Rattle.lists.specs.Counting.{sum}

sum-first : (f : ℕ → ℕ) (n : ℕ) → sum f (suc n) ≡ f 0 + sum (λ (k : ℕ). f (suc k)) n
unfolding sum
sum-first f zero = omega arith
sum-first f (suc n) = omega (arith, sum-first f n)

pub sum-by-places : {A : Type 0} (f : A → ℕ) (d : A) (l : List A) → sum_by f l ≡ sum (λ (k : ℕ). f (get_or l k d)) (length l)
unfolding sum
sum-by-places f d [] = refl
sum-by-places f d (x ∷ l) =
    sum_by-cons f x l ∙ ap (λ (s : ℕ). f x + s) (sum-by-places f d l) ∙ sym (sum-first (λ (k : ℕ). f (get_or (x ∷ l) k d)) (length l))

-- element j, and what is left behind it
pub record Next {A : Type 0} (d : A) (l : List A) (j : ℕ) (x : A) (rest : List A) : Type 0 where
  pub inside : j < length l
  pub is : x ≡ get_or l j d
  pub behind : rest ≡ drop (j + 1) l

pub next-at : {A : Type 0} (d : A) (l : List A) (j : ℕ) {left rest : List A} {x : A} → left ≡ drop j l → left ≡ x ∷ rest → Next d l j x rest
next-at d l j {left} {rest} {x} from front =
    let some : j < length l = omega (arith, length-drop j l, ap length (sym from ∙ front)) in
    let both : get_or l j d ∷ drop (suc j) l ≡ x ∷ rest = sym (drop-cons l j d some) ∙ sym from ∙ front in
    record { inside = some; is = cc; behind = rw add-one cc }

-- Laws of lists one behind the other.
use Prim.Native.Nat.{ℕ, zero, suc, ◌+◌, ◌-◌, ◌*◌, ◌≤◌}
use mathlib.Core.Path.{◌≡◌, refl, sym, ap, ◌∙◌}
use mathlib.Core.Bool.{Bool, true, false}
use mathlib.Core.List.{List, [], ◌∷◌, ◌++◌, append-nil, append_assoc}
use native.Mathlib.Nat.{zero-mul}
use native.Mathlib.Numerals.{add-one}
use native.Mathlib.Omega.{arith}
use lib.Dec.{ltb}
use lib.ListN.{length, get_or, take, drop, length-append, get_or-append}
use lib.Seq.{take_at, drop_at, drop-nil, take_all, take-append-add, get_or-append-add, get_or-take, length-take-le}
use borrow.Author.Tests.{ltb-true, ltb-false}
use Rattle.lists.specs.Counting.{sum}
use Rattle.lists.specs.Rows.{joined}
use Rattle.lists.specs.Tabulate.{tabulate}
use Rattle.lists.proofs.Elements.{Every}
use Rattle.lists.proofs.Tabulated.{tabulated}

-- one row more
pub joined-last : (rows : List (List ℕ)) (row : List ℕ) → joined (rows ++ (row ∷ [])) ≡ joined rows ++ row
unfolding joined
joined-last [] row = append-nil row
joined-last (first ∷ rows) row = ap (λ (l : List ℕ). first ++ l) (joined-last rows row) ∙ sym (append_assoc first (joined rows) row)

-- rows that are the values of a function are as long as they are together
pub joined-sum : (f : ℕ → List ℕ) (n : ℕ) → length (joined (tabulate f n)) ≡ sum (λ (k : ℕ). length (f k)) n
unfolding joined tabulate sum
joined-sum f zero = refl
joined-sum f (suc n) =
    ap length (joined-last (tabulate f n) (f n)) ∙ length-append (joined (tabulate f n)) (f n) ∙ ap (λ (k : ℕ). k + length (f n)) (joined-sum f n)

-- numbers, each a row of its own
pub ones-joined : (f : ℕ → ℕ) (n : ℕ) → joined (tabulate (λ (k : ℕ). f k ∷ []) n) ≡ tabulate f n
unfolding joined tabulate
ones-joined f zero = refl
ones-joined f (suc n) =
    joined-last (tabulate (λ (k : ℕ). f k ∷ []) n) (f n ∷ []) ∙ ap (λ (l : List ℕ). l ++ (f n ∷ [])) (ones-joined f n)

pub joined-ones : (l : List ℕ) (n : ℕ) → n ≤ length l → joined (tabulate (λ (k : ℕ). get_or l k 0 ∷ []) n) ≡ take n l
joined-ones l n inside =
    ones-joined (λ (k : ℕ). get_or l k 0) n
    ∙ sym (tabulated (λ (k : ℕ). get_or l k 0) n (take n l) 0 (length-take-le n l inside) (λ k less. get_or-take n l k 0 less))

-- what is left from row k on begins with that row; past the last row nothing is left
pub joined-next : (rows : List (List ℕ)) (k : ℕ) → joined (drop k rows) ≡ get_or rows k [] ++ joined (drop (k + 1) rows)
unfolding joined
joined-next [] k = rw (drop-nil k, drop-nil (k + 1))
joined-next (row ∷ rows) zero = refl
joined-next (row ∷ rows) (suc k) = rw (add-one (suc k)) (rw (add-one k) at (joined-next rows k))

-- rows that all have the same length
pub joined-long : (width : ℕ) (rows : List (List ℕ)) → Every (λ (row : List ℕ). length row ≡ width) [] rows → length (joined rows) ≡ length rows * width
unfolding joined
joined-long width [] each = sym (zero-mul width)
joined-long width (row ∷ rows) each =
    let first : length row ≡ width = each 0 (omega arith) in
    let rest = joined-long width rows (λ k h. each (suc k) (omega arith)) in
    omega (arith, length-append row (joined rows), first, rest)

-- rows that all have at most a length
pub joined-short : (width : ℕ) (rows : List (List ℕ)) → Every (λ (row : List ℕ). length row ≤ width) [] rows → length (joined rows) ≤ length rows * width
unfolding joined
joined-short width [] each = omega arith
joined-short width (row ∷ rows) each =
    let first : length row ≤ width = each 0 (omega arith) in
    let rest = joined-short width rows (λ k h. each (suc k) (omega arith)) in
    omega (arith, length-append row (joined rows), first, rest)

-- rows of one length, as many of them, and the same one behind the other, are the same rows
pub joined-tells : (width : ℕ) (rows others : List (List ℕ)) → Every (λ (row : List ℕ). length row ≡ width) [] rows
    → Every (λ (row : List ℕ). length row ≡ width) [] others → length rows ≡ length others → joined rows ≡ joined others → rows ≡ others
unfolding joined
joined-tells width [] [] each other number e = refl
joined-tells width [] (row ∷ others) each other number e = absurd (omega (arith, number))
joined-tells width (row ∷ rows) [] each other number e = absurd (omega (arith, number))
joined-tells width (row ∷ rows) (row' ∷ others) each other number e =
    let long = each 0 (omega arith) in
    let long' = other 0 (omega arith) in
    let first : row ≡ row' = sym (take_at row (joined rows) width long) ∙ ap (take width) e ∙ take_at row' (joined others) width long' in
    let rest : joined rows ≡ joined others = sym (drop_at row (joined rows) width long) ∙ ap (drop width) e ∙ drop_at row' (joined others) width long' in
    let same =
    joined-tells width rows others (λ k h. each (suc k) (omega arith)) (λ k h. other (suc k) (omega arith)) (omega (arith, number)) rest in
    λ i. first i ∷ same i

-- numbers that are all at most a number
pub joined-most : (most : ℕ) (rows : List (List ℕ)) → Every (λ (row : List ℕ). (s : ℕ) → get_or row s 0 ≤ most) [] rows → (k : ℕ) → get_or (joined rows) k 0 ≤ most
unfolding joined
joined-most most [] each k = omega arith
joined-most most (row ∷ rows) each k = go (joined-most most rows (λ i h. each (suc i) (omega arith))) (ltb k (length row)) refl
  where
    go : ((j : ℕ) → get_or (joined rows) j 0 ≤ most) → (b : Bool) → ltb k (length row) ≡ b → get_or (row ++ joined rows) k 0 ≤ most
    go rest true inside = rw (get_or-append row (joined rows) 0 k (ltb-true k (length row) inside)) (each 0 (omega arith) k)
    go rest false behind =
        let place : k ≡ length row + (k - length row) = omega (arith, ltb-false k (length row) behind) in
        rw (place, get_or-append-add row (joined rows) (k - length row) 0) (rest (k - length row))

-- the first rows
pub joined-front : (width n : ℕ) (rows : List (List ℕ)) → Every (λ (row : List ℕ). length row ≡ width) [] rows
    → take (n * width) (joined rows) ≡ joined (take n rows)
unfolding joined
joined-front width zero rows each = rw zero-mul refl
joined-front width (suc n) [] each = take_all (suc n * width) [] (omega arith)
joined-front width (suc n) (row ∷ rows) each =
    let long : length row ≡ width = each 0 (omega arith) in
    let places : suc n * width ≡ length row + n * width = omega (arith, long) in
    ap (λ (k : ℕ). take k (row ++ joined rows)) places
    ∙ take-append-add row (joined rows) (n * width)
    ∙ ap (λ (l : List ℕ). row ++ l) (joined-front width n rows (λ i h. each (suc i) (omega arith)))

-- Lists of numbers: whether two are the same, and one written over another.
use Rattle.std.specs.Prelude.{ℕ, ◌+◌, ◌*◌, Bool, true, false, ◌&&◌, List, [], ◌∷◌, ◌++◌, eqb, length, take, drop}

-- two lists hold the same numbers
unfoldable pub same : List ℕ → List ℕ → Bool
same [] [] = true
same [] (n ∷ y) = false
same (m ∷ x) [] = false
same (m ∷ x) (n ∷ y) = eqb m n && same x y

-- d with x written from a place on, and the rest as it was
unfoldable pub put : List ℕ → ℕ → List ℕ → List ℕ
put d at x = take at d ++ x ++ drop (at + length x) d

-- lists one behind the other
unfoldable pub joined : List (List ℕ) → List ℕ
joined [] = []
joined (x ∷ xs) = x ++ joined xs

-- row k of a table whose rows have the same width
abbrev pub row_at : ℕ → List ℕ → ℕ → List ℕ
row_at width table k = take width (drop (k * width) table)

-- A breach is the number of a row of the refusal table, or 0 where the rule is kept; the first breach decides.
use Rattle.std.specs.Prelude.{ℕ, Bool, ◌||◌, cond, List, [], ◌∷◌, ltb, eqb}
use Rattle.lists.specs.Run.{each}

-- the row's number where its rule is broken
unfoldable pub refuse : ℕ → Bool → ℕ
refuse number broken = cond broken number 0

-- a, or where a is no breach, b
unfoldable pub first : ℕ → ℕ → ℕ
first a b = cond (eqb a 0) b a

-- the first breach of a list, judged from its front
unfoldable pub first_breach : List ℕ → ℕ
first_breach [] = 0
first_breach (b ∷ bs) = first b (first_breach bs)

-- the first breach among f i, f (i + 1), .. , n of them
unfoldable pub first_of : (ℕ → ℕ) → ℕ → ℕ → ℕ
unfolding first
first_of f n i = each (λ (k breach : ℕ). first breach (f k)) n i 0

-- n is not one of lowest to highest
unfoldable pub outside : ℕ → ℕ → ℕ → Bool
outside lowest highest n = ltb n lowest || ltb highest n

-- a place below the count keeps the rules of its record, and any other is unused
abbrev pub in_use : ℕ → ℕ → ℕ → ℕ → ℕ
in_use count place used unused = cond (ltb place count) used unused

-- the breach, unless the field holds the value that it has where a record leaves it out
unfoldable pub unless_absent : ℕ → ℕ → ℕ → ℕ
unless_absent absent value breach = cond (eqb value absent) 0 breach

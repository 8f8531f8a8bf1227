-- Which inputs of a row are distinct: one that stands there again counts once.
use Rattle.std.specs.Prelude.{ℕ, ◌≡◌, Bool, false, ◌&&◌, ◌||◌, cond, List, [], ◌∷◌, eqb}
use Rattle.lists.specs.Counting.{truth, sum_over}
use Rattle.ordering.specs.Inputs.{Input}

-- two inputs are the same: tests of one component by one mask, or one gate
unfoldable pub same_input : Input → Input → Bool
same_input a b = eqb a.number b.number && eqb a.mask b.mask

-- an input stands in a row
unfoldable pub stands_in : Input → List Input → Bool
unfolding same_input
stands_in a [] = false
stands_in a (b ∷ row) = same_input a b || stands_in a row

-- how often it does
abbrev pub times_in : Input → List Input → ℕ
times_in a row = sum_over (λ (b : Input). truth (same_input a b)) row

-- the distinct inputs of a row, whatever its order: an input counts where no other behind it is the same
unfoldable pub distinct : List Input → List Input
unfolding stands_in
distinct [] = []
distinct (a ∷ row) = cond (stands_in a row) (distinct row) (a ∷ distinct row)

-- two rows have the same set of inputs, however often each stands in either
abbrev pub SameSet : List Input → List Input → Type 0
SameSet row other = (a : Input) → stands_in a row ≡ stands_in a other

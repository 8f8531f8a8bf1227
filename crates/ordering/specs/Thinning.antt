-- How the distinct inputs of a row in order are found, by looking at the next input alone. Only the code needs these:
-- what they come to is said in `Laws`.
use Rattle.std.specs.Prelude.{ℕ, ◌≡◌, Bool, false, cond, List, [], ◌∷◌, length, Option, Some, None}
use Rattle.lists.specs.Rows.{put}
use Rattle.ordering.specs.Distinct.{same_input, distinct}
use Rattle.ordering.specs.Inputs.{Input, numbers, masks}
use Rattle.ordering.specs.Sorting.{ascends}

-- an input is the first of a row
unfoldable pub stands_next : Input → List Input → Bool
unfolding same_input
stands_next a [] = false
stands_next a (b ∷ row) = same_input a b

-- a row without the inputs that stand right behind again
unfoldable pub thinned : List Input → List Input
unfolding stands_next
thinned [] = []
thinned (a ∷ row) = cond (stands_next a row) (thinned row) (a ∷ thinned row)

-- how many inputs a row may have for their number to be a byte
abbrev pub most_counted : ℕ
most_counted = 255

-- what a row was found to be: in order with so many distinct inputs, or not in order
abbrev pub counted : List Input → Option ℕ
counted row = cond (ascends row) (Some (length (distinct row))) None

-- two rows of bytes were n₀ and m₀, and now hold a row of inputs at their front, so many, and what they held behind it
pub record Fronted (n₀ m₀ : List ℕ) (row : List Input) (n m : List ℕ) (count : ℕ) : Type 0 where
  pub in_numbers : n ≡ put n₀ 0 (numbers row)
  pub in_masks : m ≡ put m₀ 0 (masks row)
  pub many : count ≡ length row

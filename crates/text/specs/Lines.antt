-- Lines: fields are parted by one space, and a line feed ends each.
use Rattle.std.specs.Prelude.{ℕ, List, [], ◌∷◌}
use Rattle.lists.specs.Rows.{joined}
use Rattle.text.specs.Letters.{letters}
use Rattle.text.specs.Numbers.{decimal}

-- a number behind a space
unfoldable pub field : ℕ → List ℕ
field n = joined (letters " " ∷ decimal n ∷ [])

-- a word and a number
unfoldable pub number_line : List ℕ → ℕ → List ℕ
number_line word n = joined (word ∷ field n ∷ letters "\n" ∷ [])

-- a lower and an upper bound, which end a line
unfoldable pub bounds_end : ℕ → ℕ → List ℕ
bounds_end lower upper = joined (field lower ∷ field upper ∷ letters "\n" ∷ [])

-- a word and two bounds
unfoldable pub bounds_line : List ℕ → ℕ → ℕ → List ℕ
bounds_line word lower upper = joined (word ∷ bounds_end lower upper ∷ [])

-- a word, the number of an item, and its two bounds
unfoldable pub item_line : List ℕ → ℕ → ℕ → ℕ → List ℕ
item_line word n lower upper = joined (word ∷ field n ∷ bounds_end lower upper ∷ [])

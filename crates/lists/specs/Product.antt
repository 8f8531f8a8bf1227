-- The product of a list of numbers.
use Rattle.std.specs.Prelude.{ℕ, ◌*◌, List, [], ◌∷◌}

unfoldable pub product : List ℕ → ℕ
product [] = 1
product (n ∷ ns) = n * product ns

-- Bounds for the losses of loads that the figures can be worked out of: sums of them fit in 64 bits without a sign.
use Rattle.std.specs.Prelude.{ℕ, ◌<◌, ◌≤◌, List, get_or}
use Rattle.units.specs.One.{one}

-- the first n bounds are at most one
pub record AtMostOne (losses : List ℕ) (n : ℕ) : Type 0 where
  pub most : (j : ℕ) → j < n → get_or losses j 0 ≤ one

-- and each of the first n lower bounds is at most its upper bound
pub record LossBounds (lower upper : List ℕ) (n : ℕ) : Type 0 where
  pub uppers : AtMostOne upper n
  pub ordered : (j : ℕ) → j < n → get_or lower j 0 ≤ get_or upper j 0

-- What two bounds for the chance of surviving promise. That chance is the exponential of minus an exponent, so it is one over the limit of the partial
-- sums; a bound times a partial sum says so without a limit and without a division.
use Rattle.std.specs.Prelude.{ℕ, ◌+◌, ◌*◌, ◌≤◌, ◌≡◌}
use Rattle.units.specs.One.{one}
use Rattle.exponential.specs.Series.{whole, partial}

-- how many units the two differ by, at most
abbrev pub widest : ℕ
widest = 64

pub record Survives (exponent lower upper : ℕ) : Type 0 where
  -- no partial sum times the lower bound is above one
  pub below : (n : ℕ) → lower * partial exponent n ≤ one * whole n
  -- some partial sum times the upper bound reaches one
  pub above : (n : ℕ) × (one * whole n ≤ upper * partial exponent n)
  -- both lie from 0 to one, the lower one not above the other, and they are near
  pub ordered : lower ≤ upper
  pub most : upper ≤ one
  pub near : upper ≤ lower + widest
  -- an exponent of 0 gives one and one
  pub certain : exponent ≡ 0 → (lower ≡ one) × (upper ≡ one)

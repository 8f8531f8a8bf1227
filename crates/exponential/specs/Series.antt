-- The partial sums of the exponential series at an exponent in units, as fractions of whole numbers: `partial x n` over `whole n` is the sum of
-- (x / one) ^ k / k! for k from 0 to n.
use Rattle.std.specs.Prelude.{ℕ, zero, suc, ◌+◌, ◌*◌, ◌^◌}
use Rattle.units.specs.One.{one}

-- what the first n + 1 terms have in common as denominator: one ^ n times n!
unfoldable pub whole : ℕ → ℕ
whole zero = 1
whole (suc n) = whole n * (one * suc n)

-- the terms to the power n, over that denominator
unfoldable pub partial : ℕ → ℕ → ℕ
partial x zero = 1
partial x (suc n) = partial x n * (one * suc n) + x ^ suc n

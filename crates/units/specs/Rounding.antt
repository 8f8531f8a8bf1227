-- Quotients of whole numbers, rounded down or up.
use Rattle.std.specs.Prelude.{ℕ, ◌+◌, ◌-◌, ◌*◌, ◌/◌}
use Rattle.units.specs.One.{one}

unfoldable pub quotient_down : ℕ → ℕ → ℕ
quotient_down a b = a / b

unfoldable pub quotient_up : ℕ → ℕ → ℕ
quotient_up a b = (a + (b - 1)) / b

-- The two ways to round a quotient over one, by what is added before the division, so that one definition serves both.
abbrev pub down : ℕ
down = 0

abbrev pub up : ℕ
up = one - 1

-- a number of units times a probability, over one: `quotient_down (a * p) one` with down, `quotient_up (a * p) one`
-- with up (`ScaleRounds`)
unfoldable pub scale : ℕ → ℕ → ℕ → ℕ
scale rounding a p = (a * p + rounding) / one

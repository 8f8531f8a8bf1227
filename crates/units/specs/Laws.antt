-- What the rounded quotients come to, and that both ways of a product over one are such.
use Rattle.std.specs.Prelude.{ℕ, ◌+◌, ◌*◌, ◌<◌, ◌≤◌, ◌≡◌}
use Rattle.units.specs.One.{one}
use Rattle.units.specs.Rounding.{quotient_down, quotient_up, down, up, scale}

-- Down is the largest whole number not above the quotient, up the smallest not below it.
pub record QuotientsRound : Type 0 where
  pub not_above : (a b : ℕ) → quotient_down a b * b ≤ a
  pub largest : (a b : ℕ) → 0 < b → a < quotient_down a b * b + b
  pub not_below : (a b : ℕ) → 0 < b → a ≤ quotient_up a b * b
  pub smallest : (a b : ℕ) → 0 < b → quotient_up a b * b < a + b

-- A number of units times a probability, over one, is the product's quotient rounded so; one times a probability is
-- that probability, either way.
pub record ScaleRounds : Type 0 where
  pub downwards : (a p : ℕ) → scale down a p ≡ quotient_down (a * p) one
  pub upwards : (a p : ℕ) → scale up a p ≡ quotient_up (a * p) one
  pub exact_downwards : (p : ℕ) → scale down one p ≡ p
  pub exact_upwards : (p : ℕ) → scale up one p ≡ p

-- What a rounded quotient tells of its dividend.
use Rattle.std.proofs.Common.{◌≡◌, ℕ, suc, ◌+◌, ◌-◌, ◌*◌, ◌/◌, ◌%◌, ◌<◌, ◌≤◌, min, arith}
use Rattle.std.proofs.Math.Nat.{div-mul-le_self, lt-div-mul-add, lt_of_mul-lt-mul_right}
use Rattle.std.proofs.lemmas.Grind.{div_ceil_times}
use Rattle.units.specs.Laws.{QuotientsRound}
use Rattle.units.specs.Rounding.{quotient_down, quotient_up}

module _ (a b : ℕ) where
  pub quotient-below : quotient_down a b * b ≤ a
  unfolding quotient_down
  quotient-below = div-mul-le_self a b

  pub quotient-near-below : 0 < b → a < quotient_down a b * b + b
  unfolding quotient_down
  quotient-near-below some = lt-div-mul-add {a = a} some

  pub quotient-above : 0 < b → a ≤ quotient_up a b * b
  unfolding quotient_up
  quotient-above some = omega (arith, lt-div-mul-add {a = a + (b - 1)} some)

  pub quotient-near-above : 0 < b → quotient_up a b * b < a + b
  unfolding quotient_up
  quotient-near-above some = omega (arith, div-mul-le_self (a + (b - 1)) b)

  -- it is what the code's division comes to, which adds one to the quotient where something remains
  pub quotient-more : 0 < b → a / b + min 1 (a % b) ≡ quotient_up a b
  quotient-more some =
      let more = a / b + min 1 (a % b) in
      let up = quotient_up a b in
      let bounds = div_ceil_times a b some in
      let least : more < suc up = lt_of_mul-lt-mul_right b (omega (arith, bounds.1, quotient-above some)) in
      let most : up < suc more = lt_of_mul-lt-mul_right b (omega (arith, bounds.0, quotient-near-above some)) in
      omega arith

pub quotients-round : QuotientsRound
quotients-round =
    record { not_above = quotient-below; largest = quotient-near-below; not_below = quotient-above; smallest = quotient-near-above }

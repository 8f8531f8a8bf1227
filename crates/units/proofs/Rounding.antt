-- Laws of a number times a probability, over one, rounded: which quotient it is, and so how near it is to the product.
use Prim.Native.Nat.{ℕ, ◌+◌, ◌*◌, ◌<◌, ◌≤◌}
use mathlib.Core.Path.{◌≡◌, refl}
use native.Mathlib.Nat.{add-zero, mul-le-mul}
use native.Mathlib.Omega.{arith}
use lib.Dec.{lit<}
use Rattle.units.specs.Laws.{ScaleRounds}
use Rattle.units.specs.One.{one}
use Rattle.units.specs.Rounding.{down, up, scale, quotient_down, quotient_up}
use Rattle.units.proofs.Quotients.{quotient-below, quotient-near-below, quotient-above, quotient-near-above}

module _ (a p : ℕ) where
  pub scale-down : scale down a p ≡ quotient_down (a * p) one
  unfolding scale quotient_down
  scale-down = rw (add-zero (a * p))

  pub scale-up : scale up a p ≡ quotient_up (a * p) one
  unfolding scale quotient_up
  scale-up = refl

  pub down-below : scale down a p * one ≤ a * p
  down-below = rw scale-down (quotient-below (a * p) one)

  pub down-near : a * p < scale down a p * one + one
  down-near = rw scale-down (quotient-near-below (a * p) one (lit< tt))

  pub up_above : a * p ≤ scale up a p * one
  up_above = rw scale-up (quotient-above (a * p) one (lit< tt))

  pub up-near : scale up a p * one < a * p + one
  up-near = rw scale-up (quotient-near-above (a * p) one (lit< tt))

  -- no more than one
  pub up-most : a ≤ one → p ≤ one → scale up a p ≤ one
  up-most most h = omega (arith, up-near, mul-le-mul most h)

-- one times a probability is that probability, without rounding
module _ (p : ℕ) where
  pub down-exact : scale down one p ≡ p
  down-exact = omega (arith, down-below one p, down-near one p)

  pub up-exact : scale up one p ≡ p
  up-exact = omega (arith, up_above one p, up-near one p)

pub scale-rounds : ScaleRounds
scale-rounds = record { downwards = scale-down; upwards = scale-up; exact_downwards = down-exact; exact_upwards = up-exact }

-- Laws of bounds that enclose an exact probability, each by multiplying its inequalities out: sums, products with a further probability, and the cap at one.
use Prim.Native.Nat.{ℕ, ◌+◌, ◌*◌, ◌≤◌, min}
use mathlib.Core.Path.{◌≡◌, refl}
use mathlib.Core.Bool.{Bool, true, false}
use native.Mathlib.Nat.{le_of_lt, mul-le-mul_left, mul-le-mul_right, min-eq_left, min-eq_right}
use native.Mathlib.Omega.{arith}
use lib.Dec.{leb}
use borrow.Author.Tests.{leb-true, leb-false}
use Rattle.units.specs.One.{one}
use Rattle.units.specs.Rounding.{down, up, scale}
use Rattle.units.specs.Within.{Within}
use Rattle.units.proofs.Rounding.{down-below, down-near, up_above, up-near}

-- certainty
pub within-one : Within one one 0 1 1
within-one = record { below = omega arith; above = omega arith; near_below = omega arith; near_above = omega arith }

-- nothing
pub within_none : (w : ℕ) → Within 0 0 0 0 w
within_none w = record { below = omega arith; above = omega arith; near_below = omega arith; near_above = omega arith }

-- certainty times a probability is that probability, without rounding
pub within_first : {x w : ℕ} → Within one one 0 x w → (p : ℕ) → Within p p 0 (x * p) (w * one)
within_first within p =
    let least = mul-le-mul_right p within.below in
    let most = mul-le-mul_right p within.above in
    record { below = omega (arith, least); above = omega (arith, most); near_below = omega (arith, most); near_above = omega (arith, least) }

module _ {lower upper far x w : ℕ} (within : Within lower upper far x w) where
  pub within-sum : {lower' upper' far' x' : ℕ} → Within lower' upper' far' x' w → Within (lower + lower') (upper + upper') (far + far') (x + x') w
  within-sum other =
      record {
        below = omega (arith, within.below, other.below);
        above = omega (arith, within.above, other.above);
        near_below = omega (arith, within.near_below, other.near_below);
        near_above = omega (arith, within.near_above, other.near_above);
      }

  -- the same probability, over a larger whole
  pub within-expanded : (k : ℕ) → Within lower upper far (x * k) (w * k)
  within-expanded k =
      record {
        below = omega (arith, mul-le-mul_right k within.below);
        above = omega (arith, mul-le-mul_right k within.above);
        near_below = omega (arith, mul-le-mul_right k within.near_below);
        near_above = omega (arith, mul-le-mul_right k within.near_above);
      }

  -- times a further probability: each bound is rounded, by less than a unit
  pub within-product : (p : ℕ) → p ≤ one → Within (scale down lower p) (scale up upper p) (far + 1) (x * p) (w * one)
  within-product p h =
      record {
        below = omega (arith, mul-le-mul_right w (down-below lower p), mul-le-mul_right p within.below);
        above = omega (arith, mul-le-mul_right w (up_above upper p), mul-le-mul_right p within.above);
        near_below = omega (arith, mul-le-mul_right w (le_of_lt (down-near lower p)), mul-le-mul_right p within.near_below, mul-le-mul_left (far * w) h);
        near_above = omega (arith, mul-le-mul_right w (le_of_lt (up-near upper p)), mul-le-mul_right p within.near_above, mul-le-mul_left (far * w) h);
      }

  -- a probability is at most one
  pub within_cap : x ≤ w → Within lower (min one upper) far x w
  within_cap h = go (leb one upper) refl
    where
      go : (b : Bool) → leb one upper ≡ b → Within lower (min one upper) far x w
      go true e =
          let least = leb-true one upper e in
          rw (min-eq_left least)
          (record {
            below = within.below;
            above = mul-le-mul_left one h;
            near_below = within.near_below;
            near_above = omega (arith, mul-le-mul_right w least, within.near_above);
          })
      go false e = rw (min-eq_right (le_of_lt (leb-false one upper e))) within

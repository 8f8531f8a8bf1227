-- Laws of the steps by which bounds are worked out: the straight line, the product with a factor, and the unit more at the end.
use Prim.Native.Nat.{ℕ, zero, suc, ◌+◌, ◌-◌, ◌*◌, ◌<◌, ◌≤◌, min}
use mathlib.Core.Path.{◌≡◌, refl, ap}
use mathlib.Core.Bool.{Bool, true, false}
use native.Mathlib.Nat.{mul-le-mul, mul-le-mul_left, mul-le-mul_right, pow-suc, pow-zero, le_of_lt}
use native.Mathlib.Nat.{min-eq_left, min-eq_right, min-le_left, min-le_right, le-min}
use native.Mathlib.Omega.{arith}
use lib.Dec.{leb}
use borrow.Author.Tests.{leb-true, leb-false}
use Rattle.units.specs.One.{one}
use Rattle.units.proofs.Rounding.{down-below, down-near, up_above, up-near, up-most}
use Rattle.units.specs.declared.bounds.Enclosure.{Enclosure}
use Rattle.exponential.specs.Series.{whole, partial}
use Rattle.exponential.specs.Worked.{grain, raised, line, times}
use Rattle.exponential.proofs.Enclosing.{Below, Above, Enclosed, Factor}
use Rattle.exponential.proofs.Products.{below-product, above-product}
use Rattle.exponential.proofs.Certificates.{below-shown, above-shown, above-some}

-- ---- a unit more

-- either it is one, or a unit was added
data Raised (bound : ℕ) : ℕ → Type 0 where
  to_one : one ≤ bound + 1 → Raised bound one
  by_a_unit : bound + 1 < one → Raised bound (bound + 1)

module _ (bound : ℕ) where
  raised_by : Raised bound (raised bound)
  unfolding raised
  raised_by = go (leb one (bound + 1)) refl
    where
      go : (b : Bool) → leb one (bound + 1) ≡ b → Raised bound (min one (bound + 1))
      go true e = let least = leb-true one (bound + 1) e in rw (min-eq_left least) (to_one least)
      go false e = let less = leb-false one (bound + 1) e in rw (min-eq_right (le_of_lt less)) (by_a_unit less)

  pub raised-most : raised bound ≤ one
  unfolding raised
  raised-most = min-le_left one (bound + 1)

  raised-near : raised bound ≤ bound + 1
  unfolding raised
  raised-near = min-le_right one (bound + 1)

  raised-least : {lower : ℕ} → lower ≤ bound → bound ≤ one → lower ≤ raised bound
  unfolding raised
  raised-least ordered most = le-min (omega (arith, ordered, most)) (omega (arith, ordered))

-- ---- the straight line, below the grain

-- one less the exponent, by the partial sum to the power 2
line-below : (x l : ℕ) → l + x ≡ one → Below x l
unfolding whole partial
line-below x l e =
    below-shown x l 2 (omega arith)
    (rw (pow-suc x 1, pow-suc x 0, pow-zero x) (omega (arith, e, ap (λ (m : ℕ). m * x) e, ap (λ (m : ℕ). m * (x * x)) e)))

-- and a unit more, by the partial sum to the power 1, since the square of an exponent below the grain is less than one
line-above : (x l u : ℕ) → l + x ≡ one → x < grain → Raised l u → Above x u
unfolding whole partial
line-above x l u e less (to_one least) = above-shown x one 0 (omega arith)
line-above x l u e less (by_a_unit more) =
    let most : x ≤ grain - 1 = omega arith in
    above-shown x (l + 1) 1
    (rw (pow-suc x 0, pow-zero x) (omega (arith, e, ap (λ (m : ℕ). m * x) e, mul-le-mul most most)))

pub line-encloses : (x : ℕ) → x < grain → Enclosed x 1 (line x)
unfolding line
line-encloses x less =
    let lower : ℕ = one - x in
    let sums : lower + x ≡ one = omega arith in
    record {
      below = line-below x lower sums;
      above = line-above x lower (raised lower) sums less (raised_by lower);
      ordered = raised-least lower (omega arith) (omega arith);
      most = raised-most lower;
      near = raised-near lower;
    }

-- ---- times a factor

-- the same bounds with more room
pub widened : {x y gap more : ℕ} {b : Enclosure} → Enclosed x gap b → x ≡ y → gap ≤ more → Enclosed y more b
widened e same room =
    rw (← same) (record { below = e.below; above = e.above; ordered = e.ordered; most = e.most; near = omega (arith, e.near, room) })

module _ {x power gap factor : ℕ} {b : Enclosure} (e : Enclosed x gap b) (f : Factor power factor) where
  -- what each rounding takes is less than a unit, and what the factors differ by no more than a unit
  multiplied : Enclosed (x + power) (gap + 2) (times 1 factor b)
  unfolding times
  multiplied =
      let lower = b.lower in
      let upper = b.upper in
      let least = down-below lower factor in
      let above = up_above upper (factor + 1) in
      let part : factor ≤ one = omega (arith, f.most) in
      let step : factor ≤ factor + 1 = omega arith in
      record {
        below = below-product e.below f.below least;
        above = above-product e.above f.above above;
        ordered = omega (arith, least, above, mul-le-mul e.ordered step);
        most = up-most upper (factor + 1) e.most (omega (arith, f.most));
        near = omega (arith, down-near lower factor, up-near upper (factor + 1), mul-le-mul_right factor e.near, e.most, mul-le-mul_left gap part);
      }

  pub times-encloses : (bit : ℕ) → bit < 2 → Enclosed (x + power * bit) (gap + 2) (times bit factor b)
  unfolding times
  times-encloses zero h = widened e (omega arith) (omega arith)
  times-encloses (suc zero) h = widened multiplied (omega arith) (omega arith)
  times-encloses (suc (suc bit)) h = absurd (omega (arith, h))

-- ---- the unit more at the end

-- some partial sum shows it
pub above-raised : {x gap : ℕ} {b : Enclosure} → Enclosed x gap b → (n : ℕ) × (one * whole n ≤ raised b.upper * partial x n)
unfolding whole partial
above-raised {x} {gap} {b} e = go (raised_by b.upper)
  where
    go : {u : ℕ} → Raised b.upper u → (n : ℕ) × (one * whole n ≤ u * partial x n)
    go (to_one least) = (0, omega arith)
    go (by_a_unit less) = above-some e.above

pub near-raised : {x gap : ℕ} {b : Enclosure} → Enclosed x gap b → raised b.upper ≤ b.lower + (gap + 1)
near-raised {x} {gap} {b} e = omega (arith, raised-near b.upper, e.near)

pub ordered-raised : {x gap : ℕ} {b : Enclosure} → Enclosed x gap b → b.lower ≤ raised b.upper
ordered-raised {x} {gap} {b} e = raised-least b.upper e.ordered e.most

-- The figures enclose the quotients of the published formulas: sums of bounds enclose the exact sums, and a quotient that is rounded down and up
-- encloses the exact one. Every fact is multiplied out, so that nothing is divided.
use Prim.Native.Nat.{ℕ, zero, suc, ◌*◌, ◌<◌, ◌≤◌}
use mathlib.Core.Path.{subst}
use mathlib.Core.Bool.{Bool, true, false}
use mathlib.Core.List.{List}
use native.Mathlib.Nat.{pos_of_ne-zero, mul-pos, mul-le-mul_left, mul-le-mul_right}
use native.Mathlib.Omega.{arith}
use lib.ListN.{length, get_or}
use Rattle.lists.specs.Counting.{sum, counted}
use Rattle.units.specs.One.{one}
use Rattle.units.specs.Rounding.{quotient_down, quotient_up}
use Rattle.units.proofs.Quotients.{quotient-below, quotient-above}
use Rattle.study.specs.declared.Load.{Load}
use Rattle.study.specs.Zero.{zero_load}
use Rattle.units.specs.declared.bounds.Enclosure.{Enclosure}
use Rattle.indices.specs.Figures.{loads_sum, loss_sum, minutes_sum, bound_of, quotients, figures_of}
use Rattle.indices.specs.Enclosed.{Encloses, LossesEnclosed, EnclosesPerCustomer, EnclosesPerInterruption}
use Rattle.indices.specs.Parts.{short, sustained}
use Rattle.indices.proofs.Stated.{stated-some, stated-bounds}

-- two bounds in units enclose x / w
record Between (low high x w : ℕ) : Type 0 where
  below : low * w ≤ one * x
  above : one * x ≤ high * w

-- ---- sums

times : {low high x w : ℕ} (k : ℕ) → Between low high x w → Between (low * k) (high * k) (x * k) w
times k b = record { below = omega (arith, mul-le-mul_right k b.below); above = omega (arith, mul-le-mul_right k b.above) }

-- a value that counts or not, on all three sides
counted-between : {low high x w : ℕ} (b : Bool) → Between low high x w → Between (counted b low) (counted b high) (counted b x) w
counted-between true between = between
counted-between false between = record { below = omega arith; above = omega arith }

sums-between : (low high x : ℕ → ℕ) (w n : ℕ) → ((j : ℕ) → j < n → Between (low j) (high j) (x j) w)
    → Between (sum low n) (sum high n) (sum x n) w
unfolding sum
sums-between low high x w zero each = record { below = omega arith; above = omega arith }
sums-between low high x w (suc n) each =
    let rest = sums-between low high x w n (λ j h. each j (omega arith)) in
    let last = each n (omega arith) in
    record { below = omega (arith, rest.below, last.below); above = omega (arith, rest.above, last.above) }

-- ---- quotients, rounded down and up

-- over one divisor that is exact
over-exact : {low high x w : ℕ} (c : ℕ) → 0 < c → 0 < w → Between low high x w
    → Encloses (quotients low c high c) (one * x) (w * c)
over-exact {low} {high} {x} {w} c some whole b =
    record {
      divisor = mul-pos whole some;
      below = omega (arith, mul-le-mul_right w (quotient-below low c), b.below);
      above = omega (arith, mul-le-mul_right w (quotient-above high c some), b.above);
    }

-- over a divisor that has bounds itself: the lower quotient divides by its upper bound, and the upper quotient by its lower one
over-bounds : {low high x least most y w : ℕ} → 0 < least → 0 < w → Between low high x w → Between least most y w
    → Encloses (quotients low most high least) x y
over-bounds {low} {high} {x} {least} {most} {y} {w} some whole b d =
    let lower = quotient_down low most in
    let upper = quotient_up high least in
    record {
      divisor = omega (arith, mul-pos some whole, d.below);
      below = omega (arith, mul-le-mul_left lower d.above, mul-le-mul_right w (quotient-below low most), b.below);
      above = omega (arith, mul-le-mul_left upper d.below, mul-le-mul_right w (quotient-above high least some), b.above);
    }

-- ---- the figures

module _ {lower upper : List ℕ} {x : ℕ → ℕ} {w : ℕ} (customers : ℕ) (loads : List Load) (enclosed : LossesEnclosed lower upper x w (length loads)) where
  -- P × C of one load
  loss-of : (j : ℕ) → j < length loads
      → Between (bound_of lower j * (get_or loads j zero_load).customers) (bound_of upper j * (get_or loads j zero_load).customers)
      (x j * (get_or loads j zero_load).customers) w
  loss-of j h = times (get_or loads j zero_load).customers (record { below = enclosed.below j h; above = enclosed.above j h })

  module _ (takes_part : Load → Bool) where
    loss-between : Between (loss_sum takes_part (bound_of lower) loads) (loss_sum takes_part (bound_of upper) loads) (loss_sum takes_part x loads) w
    unfolding loss_sum loads_sum
    loss-between = sums-between _ _ _ w (length loads) (λ j h. counted-between (takes_part (get_or loads j zero_load)) (loss-of j h))

    minutes-between : Between (minutes_sum takes_part (bound_of lower) loads) (minutes_sum takes_part (bound_of upper) loads) (minutes_sum takes_part x loads) w
    unfolding minutes_sum loads_sum
    minutes-between =
        sums-between _ _ _ w (length loads)
        (λ j h. counted-between (takes_part (get_or loads j zero_load)) (times (get_or loads j zero_load).minutes (loss-of j h)))

  module _ (some : 0 < customers) where
    pub saifi_encloses : EnclosesPerCustomer (figures_of customers lower upper loads).saifi customers (loss_sum sustained) x w loads
    unfolding figures_of
    saifi_encloses = over-exact customers some enclosed.whole (loss-between sustained)

    pub saidi_encloses : EnclosesPerCustomer (figures_of customers lower upper loads).saidi customers (minutes_sum sustained) x w loads
    unfolding figures_of
    saidi_encloses = over-exact customers some enclosed.whole (minutes-between sustained)

    pub maifi_encloses : EnclosesPerCustomer (figures_of customers lower upper loads).maifi customers (loss_sum short) x w loads
    unfolding figures_of
    maifi_encloses = over-exact customers some enclosed.whole (loss-between short)

  pub caidi_encloses : EnclosesPerInterruption (figures_of customers lower upper loads).caidi sustained x loads
  unfolding figures_of
  caidi_encloses bounds stated =
      subst (λ (b : Enclosure). Encloses b (minutes_sum sustained x loads) (loss_sum sustained x loads)) (stated-bounds _ _ _ _ stated)
      (over-bounds (pos_of_ne-zero (stated-some _ _ _ _ stated)) enclosed.whole (minutes-between sustained) (loss-between sustained))

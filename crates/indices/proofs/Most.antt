-- How large the sums over loads are at most: no load adds more than so much for each of its customers, since one that takes no part adds nothing, and
-- the customers of all loads together are limited.
use Prim.Native.Nat.{ℕ, ◌*◌, ◌<◌, ◌≤◌}
use mathlib.Core.Bool.{Bool}
use mathlib.Core.List.{List}
use native.Mathlib.Nat.{le_refl, le_trans, mul-le-mul, mul-le-mul_right}
use native.Mathlib.Omega.{arith}
use lib.ListN.{length, get_or}
use Rattle.lists.specs.Counting.{sum}
use Rattle.lists.proofs.SumBelow.{sum-most, sum-scaled, sum-limit, sum-front}
use Rattle.lists.proofs.SumOver.{counted-most}
use Rattle.units.specs.One.{one}
use Rattle.rules.specs.Limits.{most_customers, most_minutes, most_served}
use Rattle.study.specs.declared.Load.{Load}
use Rattle.study.specs.Zero.{zero_load}
use Rattle.model.specs.Good.{Sizes}
use Rattle.indices.specs.Figures.{term, loads_sum, customers_served, customers_lost, minutes_lost, customers_sum, loss_sum, minutes_sum, bound_of}
use Rattle.indices.specs.Losses.{AtMostOne}
use Rattle.indices.specs.Parts.{every}
use Rattle.indices.specs.Sums.{most_loss, most_loss_minutes}

-- the customers of load j
abbrev customers_at : List Load → ℕ → ℕ
customers_at loads j = (get_or loads j zero_load).customers

-- no load adds more to a sum than so much for each of its customers
abbrev pub Limited : (Load → Bool) → (ℕ → Load → ℕ) → ℕ → List Load → Type 0
Limited takes_part value most loads = (j : ℕ) → j < length loads → term takes_part value loads j ≤ customers_at loads j * most

-- ---- the customers

pub served-few : (loads : List Load) → Sizes loads → loads_sum every customers_served loads ≤ most_served
unfolding loads_sum
served-few loads sizes =
    le_trans (sum-limit (customers_at loads) most_customers (length loads) sizes.customers) (mul-le-mul_right most_customers sizes.few)

pub customers-few : (loads : List Load) → Sizes loads → customers_sum loads ≤ most_served
unfolding customers_sum
customers-few = served-few

pub customers-limited : (loads : List Load) → Limited every customers_served 1 loads
customers-limited loads j h = omega arith

-- ---- the sums, by the customers so far

module _ (takes_part : Load → Bool) (value : ℕ → Load → ℕ) (most : ℕ) (loads : List Load) where
  pub sum-few : Limited takes_part value most loads → loads_sum every customers_served loads ≤ most_served → (j : ℕ) → j ≤ length loads
      → sum (term takes_part value loads) j ≤ most_served * most
  unfolding loads_sum
  sum-few limit served j inside =
      let customers : ℕ → ℕ = customers_at loads in
      let so_far = sum-most (term takes_part value loads) (λ (k : ℕ). customers k * most) j (λ k h. limit k (omega (arith, inside))) in
      let all = le_trans (sum-front customers j (length loads) inside) served in
      le_trans (rw (sum-scaled customers most j) at so_far) (mul-le-mul_right most all)

module _ (takes_part : Load → Bool) (loads : List Load) where
  limited : (value : ℕ → Load → ℕ) (most : ℕ) → ((j : ℕ) → j < length loads → value j (get_or loads j zero_load) ≤ customers_at loads j * most)
      → Limited takes_part value most loads
  limited value most each j h = le_trans (counted-most (takes_part (get_or loads j zero_load)) (value j (get_or loads j zero_load))) (each j h)

  module _ {losses : List ℕ} (most : AtMostOne losses (length loads)) where
    -- P × C of one load
    lost-most : (j : ℕ) → j < length loads → customers_lost (bound_of losses) j (get_or loads j zero_load) ≤ one * customers_at loads j
    lost-most j h = mul-le-mul_right (customers_at loads j) (most.most j h)

    pub loss-limited : Limited takes_part (customers_lost (bound_of losses)) one loads
    loss-limited = limited (customers_lost (bound_of losses)) one (λ j h. omega (arith, lost-most j h))

    module _ (sizes : Sizes loads) where
      pub minutes-limited : Limited takes_part (minutes_lost (bound_of losses)) (one * most_minutes) loads
      minutes-limited =
          limited (minutes_lost (bound_of losses)) (one * most_minutes) (λ j h. omega (arith, mul-le-mul (lost-most j h) (sizes.minutes j h)))

      pub loss-few : loss_sum takes_part (bound_of losses) loads ≤ most_loss
      unfolding loss_sum loads_sum
      loss-few = sum-few takes_part (customers_lost (bound_of losses)) one loads loss-limited (served-few loads sizes) (length loads) (le_refl _)

      pub minutes-few : minutes_sum takes_part (bound_of losses) loads ≤ most_loss_minutes
      unfolding minutes_sum loads_sum
      minutes-few =
          sum-few takes_part (minutes_lost (bound_of losses)) (one * most_minutes) loads minutes-limited (served-few loads sizes) (length loads) (le_refl _)

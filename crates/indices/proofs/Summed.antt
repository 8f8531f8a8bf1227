-- What carries each loop that adds up a value of every load that takes part: the terms of those below j are added, and fit by the customers so far.
use Prim.Native.Nat.{ℕ, ◌+◌, ◌*◌, ◌<◌, ◌≤◌}
use mathlib.Core.Path.{◌≡◌, refl, ap, ◌∙◌}
use mathlib.Core.Bool.{Bool}
use mathlib.Core.List.{List}
use native.Mathlib.Numerals.{add-one}
use native.Mathlib.Omega.{arith}
use lib.ListN.{length}
use Rattle.lists.specs.Counting.{sum}
use Rattle.rules.specs.Limits.{most_served}
use Rattle.study.specs.declared.Load.{Load}
use Rattle.indices.specs.Figures.{term, customers_served, loads_sum}
use Rattle.indices.specs.Parts.{every}
use Rattle.indices.specs.Sums.{SumIs}
use Rattle.indices.proofs.Most.{Limited, sum-few}

pub record Summed (takes_part : Load → Bool) (value : ℕ → Load → ℕ) (most : ℕ) (loads : List Load) (j s : ℕ) : Type 0 where
  pub served : loads_sum every customers_served loads ≤ most_served
  pub limit : Limited takes_part value most loads
  pub inside : j ≤ length loads
  pub summed : s ≡ sum (term takes_part value loads) j

module _ {takes_part : Load → Bool} {value : ℕ → Load → ℕ} {most : ℕ} {loads : List Load} where
  pub summed-start : loads_sum every customers_served loads ≤ most_served → Limited takes_part value most loads
      → Summed takes_part value most loads 0 0
  unfolding sum
  summed-start served limit = record { served = served; limit = limit; inside = omega arith; summed = refl }

  module _ {j s : ℕ} (c : Summed takes_part value most loads j s) where
    most-sum : s ≤ most_served * most
    most-sum = rw c.summed (sum-few takes_part value most loads c.limit c.served j c.inside)

    pub summed-more : j < length loads → Summed takes_part value most loads (j + 1) (s + term takes_part value loads j)
    unfolding sum
    summed-more h = record { served = c.served; limit = c.limit; inside = omega arith; summed = rw (add-one, c.summed) refl }

    pub summed-done : length loads ≤ j → SumIs (loads_sum takes_part value loads) (most_served * most) s
    unfolding loads_sum
    summed-done h =
        let all : j ≡ length loads = omega (arith, c.inside) in
        record { is = c.summed ∙ ap (sum (term takes_part value loads)) all; fits = most-sum }

  -- the next sum fits
  pub summed-fits : {j s : ℕ} → Summed takes_part value most loads j s → j < length loads
      → s + term takes_part value loads j ≤ most_served * most
  summed-fits c h = most-sum (summed-more c h)

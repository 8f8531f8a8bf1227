-- Sums over loads as the code adds them up, and how large they are at most.
use Rattle.std.specs.Prelude.{ℕ, ◌+◌, ◌*◌, ◌≤◌, ◌≡◌, List}
use Rattle.lists.specs.Counting.{counted}
use Rattle.units.specs.One.{one}
use Rattle.rules.specs.Limits.{most_served, most_minutes}
use Rattle.study.specs.declared.Load.{Load}
use Rattle.indices.specs.declared.sums.Sums.{Sums}
use Rattle.indices.specs.Figures.{loss_sum, minutes_sum, bound_of}
use Rattle.indices.specs.Parts.{short, sustained}

-- the most that a sum of P × C comes to, and one of P × C × M: so much for each customer served
abbrev pub most_loss : ℕ
most_loss = most_served * one

abbrev pub most_loss_minutes : ℕ
most_loss_minutes = most_served * (one * most_minutes)

-- r is the sum, and at most so much
pub record SumIs (sum most r : ℕ) : Type 0 where
  pub is : r ≡ sum
  pub fits : r ≤ most

-- the sums with one load more, whose loss is bounded so: in each it counts where it takes part
unfoldable pub plus_load : Sums → ℕ → Load → Sums
unfolding short sustained
plus_load sums loss l =
    record {
      loss = sums.loss + counted (sustained l) (loss * l.customers);
      minutes = sums.minutes + counted (sustained l) (loss * l.customers * l.minutes);
      momentary = sums.momentary + counted (short l) (loss * l.customers);
    }

pub record SumsFit (sums : Sums) : Type 0 where
  pub loss : sums.loss ≤ most_loss
  pub minutes : sums.minutes ≤ most_loss_minutes
  pub momentary : sums.momentary ≤ most_loss

-- the sums over loads, each with its bound
pub record SumsOf (losses : List ℕ) (loads : List Load) (sums : Sums) : Type 0 where
  pub loss : SumIs (loss_sum sustained (bound_of losses) loads) most_loss sums.loss
  pub minutes : SumIs (minutes_sum sustained (bound_of losses) loads) most_loss_minutes sums.minutes
  pub momentary : SumIs (loss_sum short (bound_of losses) loads) most_loss sums.momentary

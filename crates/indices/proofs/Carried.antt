-- What carries the loop that adds up the sums over P: those of the loads below j are added (`Summed`), and so the next ones fit.
use Prim.Native.Nat.{ℕ, ◌+◌, ◌*◌, ◌<◌, ◌≤◌}
use mathlib.Core.Path.{◌≡◌}
use mathlib.Core.List.{List}
use lib.ListN.{length, get_or}
use Rattle.units.specs.One.{one}
use Rattle.rules.specs.Limits.{most_minutes}
use Rattle.study.specs.declared.Load.{Load}
use Rattle.study.specs.Zero.{zero_load}
use Rattle.model.specs.Good.{Sizes}
use Rattle.indices.specs.declared.sums.Sums.{Sums}
use Rattle.indices.specs.Figures.{customers_lost, minutes_lost, loss_sum, minutes_sum, bound_of}
use Rattle.indices.specs.Losses.{AtMostOne}
use Rattle.indices.specs.Parts.{short, sustained}
use Rattle.indices.specs.Sums.{plus_load, SumsFit, SumsOf}
use Rattle.indices.proofs.Most.{served-few, loss-limited, minutes-limited}
use Rattle.indices.proofs.Summed.{Summed, summed-start, summed-more, summed-fits, summed-done}

pub record Carried (losses : List ℕ) (loads : List Load) (j : ℕ) (sums : Sums) : Type 0 where
  pub loss : Summed sustained (customers_lost (bound_of losses)) one loads j sums.loss
  pub minutes : Summed sustained (minutes_lost (bound_of losses)) (one * most_minutes) loads j sums.minutes
  pub momentary : Summed short (customers_lost (bound_of losses)) one loads j sums.momentary

module _ {losses : List ℕ} {loads : List Load} where
  pub carried-start : {sums : Sums} → Sizes loads → AtMostOne losses (length loads) → sums.loss ≡ 0 → sums.minutes ≡ 0 → sums.momentary ≡ 0
      → Carried losses loads 0 sums
  carried-start sizes most loss minutes momentary =
      let served = served-few loads sizes in
      record {
        loss = rw loss (summed-start served (loss-limited sustained loads most));
        minutes = rw minutes (summed-start served (minutes-limited sustained loads most sizes));
        momentary = rw momentary (summed-start served (loss-limited short loads most));
      }

  module _ {j : ℕ} {sums : Sums} (c : Carried losses loads j sums) where
    pub carried-fits : j < length loads → SumsFit (plus_load sums (get_or losses j 0) (get_or loads j zero_load))
    unfolding plus_load
    carried-fits h = record { loss = summed-fits c.loss h; minutes = summed-fits c.minutes h; momentary = summed-fits c.momentary h }

    pub carried-more : j < length loads → Carried losses loads (j + 1) (plus_load sums (get_or losses j 0) (get_or loads j zero_load))
    unfolding plus_load
    carried-more h = record { loss = summed-more c.loss h; minutes = summed-more c.minutes h; momentary = summed-more c.momentary h }

    pub carried-done : length loads ≤ j → SumsOf losses loads sums
    unfolding loss_sum minutes_sum
    carried-done h = record { loss = summed-done c.loss h; minutes = summed-done c.minutes h; momentary = summed-done c.momentary h }

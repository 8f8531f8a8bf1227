-- The upper bounds for the losses of a good model's loads are at most one, and no lower bound is above its upper one. What carries the second: both
-- enclose one exact probability.
use Prim.Native.Nat.{ℕ, ◌<◌, ◌≤◌}
use mathlib.Core.Path.{◌≡◌}
use mathlib.Core.List.{List}
use native.Mathlib.Nat.{one-le-pow, min-le_left, le_trans, le_of_mul-le-mul_right}
use native.Mathlib.Omega.{arith}
use lib.ListN.{get_or}
use Rattle.lists.specs.Bits.{bit}
use Rattle.lists.proofs.Tabulated.{get_or-tabulate}
use Rattle.units.specs.One.{one}
use Rattle.units.specs.Rounding.{up}
use Rattle.rules.specs.Limits.{most_loads}
use Rattle.model.specs.Good.{Good}
use Rattle.model.specs.Model.{Model, components, paths_of, probability_table}
use Rattle.probability.specs.Bounds.{total}
use Rattle.accuracy.proofs.Totals.{total-within}
use Rattle.indices.specs.Losses.{LossBounds}
use Rattle.evaluation.specs.Bounds.{lower_of, upper_of, load_lowers, load_uppers}
use Rattle.evaluation.specs.Losses.{LossesOf}

-- the pair of a load among those of all
pub lower-at : (m : Model) (j : ℕ) → j < most_loads → get_or (load_lowers m) j 0 ≡ lower_of m (λ (class : ℕ). bit class j)
lower-at m j h = get_or-tabulate (λ (j : ℕ). lower_of m (λ (class : ℕ). bit class j)) most_loads j 0 h

pub upper-at : (m : Model) (j : ℕ) → j < most_loads → get_or (load_uppers m) j 0 ≡ upper_of m (λ (class : ℕ). bit class j)
upper-at m j h = get_or-tabulate (λ (j : ℕ). upper_of m (λ (class : ℕ). bit class j)) most_loads j 0 h

module _ (m : Model) (good : Good m) where
  lower-below : (j : ℕ) → lower_of m (λ (class : ℕ). bit class j) ≤ upper_of m (λ (class : ℕ). bit class j)
  lower-below j =
      let within = total-within m good (λ (class : ℕ). bit class j) in
      le_of_mul-le-mul_right (le_trans within.below within.above) (one-le-pow (components m) one (omega arith))

  pub model-losses : LossBounds (load_lowers m) (load_uppers m) most_loads
  model-losses =
      record {
        uppers =
            record { most = λ j h. rw (upper-at m j h) (min-le_left one (total up (probability_table m) (components m) (λ (class : ℕ). bit class j) (paths_of m))) };
        ordered = λ j h. rw (lower-at m j h, upper-at m j h) (lower-below j);
      }

-- as the code finds them
pub losses-found : {lower upper : List ℕ} (m : Model) → Good m → lower ≡ load_lowers m → upper ≡ load_uppers m → LossesOf m lower upper
losses-found m good is-lower is-upper = record { lowers = is-lower; uppers = is-upper; bounds = rw (is-lower, is-upper) (model-losses m good) }

-- what holds of all load places holds of those in use
pub fewer-losses : {lower upper : List ℕ} {most n : ℕ} → n ≤ most → LossBounds lower upper most → LossBounds lower upper n
fewer-losses few bounds =
    record { uppers = record { most = λ j h. bounds.uppers.most j (omega (arith, few)) }; ordered = λ j h. bounds.ordered j (omega (arith, few)) }

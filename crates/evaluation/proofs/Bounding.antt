-- Totals that were cleared first hold the bounds of a good model's classes or loads. What carries the lower ones:
-- a limit of one for each of 4,096 paths is none.
use Prim.Native.Nat.{ℕ, ◌≤◌, min}
use mathlib.Core.Path.{◌≡◌, refl, sym, ap, ◌∙◌}
use mathlib.Core.Bool.{Bool, true}
use mathlib.Core.List.{List}
use native.Mathlib.Omega.{arith}
use lib.ListN.{length, replicate, length-replicate}
use Rattle.lists.specs.Rows.{put}
use Rattle.lists.specs.Tabulate.{tabulate}
use Rattle.lists.proofs.Puts.{put_whole}
use Rattle.lists.proofs.Tabulated.{length-tabulate}
use Rattle.rules.specs.Limits.{most_loads}
use Rattle.units.specs.One.{one}
use Rattle.units.specs.Rounding.{down, up}
use Rattle.model.specs.Good.{Good}
use Rattle.model.specs.Model.{Model, components, paths_of, probability_table}
use Rattle.model.proofs.Listing.{paths-few}
use Rattle.model.proofs.Table.{table-most}
use Rattle.probability.specs.Probabilities.{AtMostOne}
use Rattle.probability.proofs.Most.{total-most}
use Rattle.totals.specs.Places.{sums_most, counts_at, Cleared, Adds}
use Rattle.totals.proofs.Added.{cleared-adds}
use Rattle.totals.proofs.Placed.{placed-put, zeros-cleared}
use Rattle.study_model.specs.Totals.{paths_bring}
use Rattle.evaluation.specs.Bounds.{lower_of, upper_of, load_lowers, load_uppers}

-- ---- classes and loads, in totals

module _ (m : Model) (good : Good m) where
  pub model-table : AtMostOne (probability_table m)
  model-table = record { each = table-most m good }

  module _ (loadwise : Bool) where
    unlimited : (place : ℕ) → min sums_most (paths_bring loadwise down m place) ≡ lower_of m (counts_at loadwise place)
    unfolding paths_bring
    unlimited place =
        omega (arith, total-most down (omega arith) (probability_table m) model-table (components m) (counts_at loadwise place) (paths_of m), paths-few m good)

    limited : (place : ℕ) → min one (paths_bring loadwise up m place) ≡ upper_of m (counts_at loadwise place)
    unfolding paths_bring
    limited place = refl

    module _ {places : ℕ} {d₀ d d' : List ℕ} (none : Cleared places d₀ d) (room : places ≤ length d₀) where
      pub lower-totals : Adds sums_most places (paths_bring loadwise down m) d d' → d' ≡ put d₀ 0 (tabulate (λ (p : ℕ). lower_of m (counts_at loadwise p)) places)
      lower-totals adds = placed-put (cleared-adds none adds unlimited) room

      pub upper-totals : Adds one places (paths_bring loadwise up m) d d' → d' ≡ put d₀ 0 (tabulate (λ (p : ℕ). upper_of m (counts_at loadwise p)) places)
      upper-totals adds = placed-put (cleared-adds none adds limited) room

  -- ---- those of loads, in arrays of zeros

  module _ {d : List ℕ} (zeros : d ≡ replicate most_loads 0) where
    eight : length d ≡ most_loads
    eight = ap length zeros ∙ length-replicate {A = ℕ} most_loads 0

    -- they fill the array
    filled : (value : ℕ → ℕ) → put d 0 (tabulate value most_loads) ≡ tabulate value most_loads
    filled value = put_whole d (tabulate value most_loads) (length-tabulate value most_loads ∙ sym eight)

    pub lower-losses : {d' : List ℕ} → Adds sums_most most_loads (paths_bring true down m) d d' → d' ≡ load_lowers m
    lower-losses adds = lower-totals true (zeros-cleared zeros) (omega (arith, eight)) adds ∙ filled (λ (j : ℕ). lower_of m (counts_at true j))

    pub upper-losses : {d' : List ℕ} → Adds one most_loads (paths_bring true up m) d d' → d' ≡ load_uppers m
    upper-losses adds = upper-totals true (zeros-cleared zeros) (omega (arith, eight)) adds ∙ filled (λ (j : ℕ). upper_of m (counts_at true j))

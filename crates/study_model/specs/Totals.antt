-- What the paths of a model bring to totals.
use Rattle.std.specs.Prelude.{ℕ, Bool}
use Rattle.model.specs.Model.{Model, components, paths_of, probability_table}
use Rattle.probability.specs.Bounds.{total}
use Rattle.totals.specs.Places.{counts_at}

-- the sum of the bounds of those whose class counts at a place, by class or by load
unfoldable pub paths_bring : Bool → ℕ → Model → ℕ → ℕ
unfolding total
paths_bring loadwise rounding m place = total rounding (probability_table m) (components m) (counts_at loadwise place) (paths_of m)

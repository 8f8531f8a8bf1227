-- Bounds for the paths, classes and loads of a model.
use Rattle.std.specs.Prelude.{ℕ, Bool, List}
use Rattle.probability.specs.Bounds.{lower_total, upper_total}
use Rattle.probability.specs.Totals.{lower_bounds, upper_bounds, lower_classes, upper_classes, lower_loads, upper_loads}
use Rattle.model.specs.Model.{Model, components, paths_of, probability_table}

-- the lower and the upper bound of each path
abbrev pub path_lowers : Model → List ℕ
path_lowers m = lower_bounds (probability_table m) (components m) (paths_of m)

abbrev pub path_uppers : Model → List ℕ
path_uppers m = upper_bounds (probability_table m) (components m) (paths_of m)

-- the bounds of the joint states whose class is kept
abbrev pub lower_of : Model → (ℕ → Bool) → ℕ
lower_of m keep = lower_total (probability_table m) (components m) keep (paths_of m)

abbrev pub upper_of : Model → (ℕ → Bool) → ℕ
upper_of m keep = upper_total (probability_table m) (components m) keep (paths_of m)

-- the bounds of each class, at its place
abbrev pub class_lowers : Model → List ℕ
class_lowers m = lower_classes (probability_table m) (components m) (paths_of m)

abbrev pub class_uppers : Model → List ℕ
class_uppers m = upper_classes (probability_table m) (components m) (paths_of m)

-- the bounds of each load
abbrev pub load_lowers : Model → List ℕ
load_lowers m = lower_loads (probability_table m) (components m) (paths_of m)

abbrev pub load_uppers : Model → List ℕ
load_uppers m = upper_loads (probability_table m) (components m) (paths_of m)

-- What is worked out from the entries of a list of paths: bounds of each path, and totals of each class and load.
use Rattle.std.specs.Prelude.{ℕ, List, map, eqb}
use Rattle.lists.specs.Bits.{bit}
use Rattle.lists.specs.Tabulate.{tabulate}
use Rattle.rules.specs.Limits.{most_loads}
use Rattle.units.specs.Rounding.{down, up}
use Rattle.entries.specs.Entries.{class_places}
use Rattle.probability.specs.Bounds.{path_bound, lower_total, upper_total}

-- a bound for each path, rounded one way
unfoldable pub path_bounds : ℕ → List ℕ → ℕ → List (List ℕ) → List ℕ
unfolding path_bound
path_bounds rounding probabilities n entries = map (path_bound rounding probabilities n) entries

-- the lower and the upper bound of each path
abbrev pub lower_bounds : List ℕ → ℕ → List (List ℕ) → List ℕ
lower_bounds probabilities n entries = path_bounds down probabilities n entries

abbrev pub upper_bounds : List ℕ → ℕ → List (List ℕ) → List ℕ
upper_bounds probabilities n entries = path_bounds up probabilities n entries

-- the bounds of each class; 0 for a class with no path
abbrev pub lower_classes : List ℕ → ℕ → List (List ℕ) → List ℕ
lower_classes probabilities n entries = tabulate (λ (c : ℕ). lower_total probabilities n (λ (class : ℕ). eqb class c) entries) class_places

abbrev pub upper_classes : List ℕ → ℕ → List (List ℕ) → List ℕ
upper_classes probabilities n entries = tabulate (λ (c : ℕ). upper_total probabilities n (λ (class : ℕ). eqb class c) entries) class_places

-- the bounds for the loss of load j: those of the classes that have its bit
abbrev pub lower_loss : List ℕ → ℕ → List (List ℕ) → ℕ → ℕ
lower_loss probabilities n entries j = lower_total probabilities n (λ (class : ℕ). bit class j) entries

abbrev pub upper_loss : List ℕ → ℕ → List (List ℕ) → ℕ → ℕ
upper_loss probabilities n entries j = upper_total probabilities n (λ (class : ℕ). bit class j) entries

-- and so of each load
abbrev pub lower_loads : List ℕ → ℕ → List (List ℕ) → List ℕ
lower_loads probabilities n entries = tabulate (lower_loss probabilities n entries) most_loads

abbrev pub upper_loads : List ℕ → ℕ → List (List ℕ) → List ℕ
upper_loads probabilities n entries = tabulate (upper_loss probabilities n entries) most_loads

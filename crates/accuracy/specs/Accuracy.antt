-- How near the bounds of paths and of sums over paths are to the exact probabilities, for any good model.
use Rattle.std.specs.Prelude.{ℕ, ◌-◌, ◌^◌, ◌<◌, Bool, not, List, [], eqb, length, get_or}
use Rattle.lists.specs.Counting.{count_true, those, sum_over}
use Rattle.units.specs.One.{one}
use Rattle.units.specs.Rounding.{down, up}
use Rattle.units.specs.Within.{Within}
use Rattle.entries.specs.Entries.{blank_mark, class_borne}
use Rattle.paths.specs.Words.{fits}
use Rattle.model.specs.Good.{Good}
use Rattle.model.specs.Model.{Model, components, paths_of, probability_table}
use Rattle.probability.specs.Bounds.{path_bound, lower_total, upper_total}
use Rattle.probability.specs.Exact.{exact}

-- the exact probability of the joint states concerned, as a whole number over one to the power of the number of components
abbrev pub exact_of : Model → (List ℕ → Bool) → ℕ
exact_of m concerned = exact m.probabilities m.counts concerned

abbrev pub whole_of : Model → ℕ
whole_of m = one ^ components m

-- how many of an entry's n components are settled
unfoldable pub settled_count : ℕ → List ℕ → ℕ
unfolding count_true
settled_count n entry = count_true (λ (k : ℕ). not (eqb (get_or entry k blank_mark) blank_mark)) n

-- the distance that demand 2 allows a path: one unit for each settled state beyond the first
abbrev pub path_distance : ℕ → List ℕ → ℕ
path_distance n entry = settled_count n entry - 1

-- and a sum over those paths whose class is kept
unfoldable pub total_distance : ℕ → (ℕ → Bool) → List (List ℕ) → ℕ
unfolding sum_over those settled_count
total_distance n keep entries = sum_over (path_distance n) (those (λ (entry : List ℕ). keep (class_borne n entry)) entries)

-- The bounds of a path enclose the exact probability of the joint states that fit it.
abbrev pub PathWithin : Type 0
PathWithin =
    (m : Model) → Good m → (i : ℕ) → i < length (paths_of m)
    → Within
    (path_bound down (probability_table m) (components m) (get_or (paths_of m) i []))
    (path_bound up (probability_table m) (components m) (get_or (paths_of m) i []))
    (path_distance (components m) (get_or (paths_of m) i []))
    (exact_of m (λ (x : List ℕ). fits x (get_or (paths_of m) i [])))
    (whole_of m)

-- Sums over those paths whose class is kept enclose the exact probability of the joint states whose class is.
abbrev pub TotalWithin : Type 0
TotalWithin =
    (m : Model) → Good m → (keep : ℕ → Bool)
    → Within
    (lower_total (probability_table m) (components m) keep (paths_of m))
    (upper_total (probability_table m) (components m) keep (paths_of m))
    (total_distance (components m) keep (paths_of m))
    (exact_of m (λ (x : List ℕ). keep (m.class x)))
    (whole_of m)

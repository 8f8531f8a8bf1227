-- Bounds of paths and of sums over paths, in units. `rounding` is what each division adds: `down` for lower bounds, `up` for upper ones.
use Rattle.std.specs.Prelude.{ℕ, zero, suc, min, Bool, cond, List, eqb, get_or}
use Rattle.lists.specs.Counting.{those, sum_over}
use Rattle.units.specs.One.{one}
use Rattle.units.specs.Rounding.{down, up, scale}
use Rattle.entries.specs.Entries.{blank_mark, class_borne}
use Rattle.probability.specs.Probabilities.{probability_at}

-- a bound with the factor of component i, which has this mark: a settled one's probability, and none of a blank one
unfoldable pub factored : ℕ → List ℕ → ℕ → ℕ → ℕ → ℕ
unfolding scale
factored rounding probabilities i mark bound = cond (eqb mark blank_mark) bound (scale rounding bound (probability_at probabilities i mark))

-- a path starts at one, and has the factors of its first n components in order
unfoldable pub path_bound : ℕ → List ℕ → ℕ → List ℕ → ℕ
unfolding factored
path_bound rounding probabilities zero entry = one
path_bound rounding probabilities (suc i) entry = factored rounding probabilities i (get_or entry i blank_mark) (path_bound rounding probabilities i entry)

-- the sum of the bounds of those paths whose class is kept; entries are of n components
unfoldable pub total : ℕ → List ℕ → ℕ → (ℕ → Bool) → List (List ℕ) → ℕ
unfolding sum_over those path_bound
total rounding probabilities n keep entries = sum_over (path_bound rounding probabilities n) (those (λ (entry : List ℕ). keep (class_borne n entry)) entries)

abbrev pub lower_total : List ℕ → ℕ → (ℕ → Bool) → List (List ℕ) → ℕ
lower_total probabilities n keep entries = total down probabilities n keep entries

-- at most one
abbrev pub upper_total : List ℕ → ℕ → (ℕ → Bool) → List (List ℕ) → ℕ
upper_total probabilities n keep entries = min one (total up probabilities n keep entries)

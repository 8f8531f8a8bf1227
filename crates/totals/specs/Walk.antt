-- What a walk along the paths of a block adds up, from a path that has come as far as the block.
use Rattle.std.specs.Prelude.{ℕ, zero, suc, ◌+◌, ◌≤◌, Bool, List, length, get_or, drop}
use Rattle.lists.specs.Counting.{counted, sum_over}
use Rattle.units.specs.One.{one}
use Rattle.rules.specs.Limits.{most_components}
use Rattle.entries.specs.Entries.{blank_mark, class_borne}
use Rattle.paths.specs.Paths.{paths}
use Rattle.probability.specs.Bounds.{factored, total}
use Rattle.probability.specs.Probabilities.{AtMostOne}
use Rattle.totals.specs.Places.{counts_at}

-- a path has come as far as component i, the first of those with these state counts, with these bounds
pub record Reached (counts probabilities : List ℕ) (i low high : ℕ) : Type 0 where
  pub table : AtMostOne probabilities
  pub few : i + length counts ≤ most_components
  pub low_most : low ≤ one
  pub high_most : high ≤ one

-- a bound gone on with the factors of the n components from i on, which have these marks
unfoldable pub onward : ℕ → List ℕ → ℕ → ℕ → List ℕ → ℕ → ℕ
unfolding factored
onward rounding probabilities i zero marks bound = bound
onward rounding probabilities i (suc n) marks bound =
    onward rounding probabilities (i + 1) n (drop 1 marks) (factored rounding probabilities i
    (get_or marks 0 blank_mark) bound)

-- what entries of the n components from i on bring to the total of the classes that are kept, behind a path with this
-- bound
unfoldable pub brought_by : ℕ → List ℕ → ℕ → ℕ → ℕ → (ℕ → Bool) → List (List ℕ) → ℕ
unfolding sum_over onward
brought_by rounding probabilities i n bound keep entries =
    sum_over (λ (entry : List ℕ). counted (keep (class_borne n entry))
    (onward rounding probabilities i n entry bound)) entries

-- what the paths of a block bring to a place, by class or by load
unfoldable pub brings : Bool → ℕ → List ℕ → ℕ → List ℕ → List ℕ → ℕ → ℕ → ℕ
unfolding brought_by paths
brings loadwise rounding probabilities i counts block bound place =
    brought_by rounding probabilities i (length counts) bound (counts_at loadwise place) (paths counts block)

-- what the entries of the whole list bring to a place
unfoldable pub brings_all : Bool → ℕ → List ℕ → List ℕ → List ℕ → ℕ → ℕ
unfolding total paths
brings_all loadwise rounding probabilities counts block place =
    total rounding probabilities (length counts) (counts_at loadwise place) (paths counts block)

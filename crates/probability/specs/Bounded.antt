-- What has to be known of slices for the paths of a list to be bounded, and what is known of a bound.
use Rattle.std.specs.Prelude.{ℕ, ◌≤◌, ◌≡◌, List}
use Rattle.units.specs.One.{one}
use Rattle.entries.specs.Lists.{PathList}
use Rattle.probability.specs.Bounds.{path_bound}
use Rattle.probability.specs.Probabilities.{AtMostOne}

-- a table of probabilities beside a list of so many paths
pub record Boundable (probabilities : List ℕ) (n : ℕ) (list : List ℕ) (paths : ℕ) : Type 0 where
  pub table : AtMostOne probabilities
  pub room : PathList n paths list

-- the bound of the path of an entry
pub record Bounded (rounding : ℕ) (probabilities : List ℕ) (n : ℕ) (entry : List ℕ) (bound : ℕ) : Type 0 where
  pub is : bound ≡ path_bound rounding probabilities n entry
  pub most : bound ≤ one

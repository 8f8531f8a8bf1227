-- A table of the probabilities of states, in units: four places for each component.
use Rattle.std.specs.Prelude.{ℕ, ◌+◌, ◌*◌, ◌≤◌, List, get_or}
use Rattle.units.specs.One.{one}
use Rattle.rules.specs.Limits.{most_states}

-- the probability of state s of component i
abbrev pub probability_at : List ℕ → ℕ → ℕ → ℕ
probability_at table i s = get_or table (i * most_states + s) 0

-- nothing in the table is above one, so that products fit
pub record AtMostOne (table : List ℕ) : Type 0 where
  pub each : (k : ℕ) → get_or table k 0 ≤ one

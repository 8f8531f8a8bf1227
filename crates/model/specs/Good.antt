-- What a model has to keep for its paths, bounds and figures to be what the papers say of them: a law says that a sound study's does.
use Rattle.std.specs.Prelude.{ℕ, ◌<◌, ◌≤◌, ◌≡◌, List, [], length, get_or}
use Rattle.lists.specs.Counting.{sum}
use Rattle.lists.specs.Product.{product}
use Rattle.units.specs.One.{one}
use Rattle.rules.specs.Limits.{most_components, most_loads, fewest_states, most_states, most_joint_states, most_customers, most_minutes}
use Rattle.study.specs.declared.Load.{Load}
use Rattle.study.specs.Zero.{zero_load}
use Rattle.model.specs.Model.{Model}

-- the probabilities of a component's states: of its `states` states they sum to one, and a state that it lacks has probability 0
pub record Whole (states : ℕ) (row : List ℕ) : Type 0 where
  pub places : length row ≡ most_states
  pub sums : sum (λ (s : ℕ). get_or row s 0) states ≡ one
  pub lacking : (s : ℕ) → states ≤ s → get_or row s 0 ≡ 0

-- the components: how many states each has, and how many joint states they have together
pub record Counted (counts : List ℕ) : Type 0 where
  pub few : length counts ≤ most_components
  pub least : (k : ℕ) → k < length counts → fewest_states ≤ get_or counts k 0
  pub most : (k : ℕ) → k < length counts → get_or counts k 0 ≤ most_states
  pub joint : product counts ≤ most_joint_states

-- a row of probabilities for each component
pub record StateProbabilities (counts : List ℕ) (probabilities : List (List ℕ)) : Type 0 where
  pub rows : length probabilities ≡ length counts
  pub whole : (k : ℕ) → k < length counts → Whole (get_or counts k 0) (get_or probabilities k [])

-- the loads are within their limits
pub record Sizes (loads : List Load) : Type 0 where
  pub few : length loads ≤ most_loads
  pub customers : (j : ℕ) → j < length loads → (get_or loads j zero_load).customers ≤ most_customers
  pub minutes : (j : ℕ) → j < length loads → (get_or loads j zero_load).minutes ≤ most_minutes

pub record Good (m : Model) : Type 0 where
  pub counts : Counted m.counts
  pub probabilities : StateProbabilities m.counts m.probabilities
  pub loads : Sizes m.loads

-- The model: components with the probabilities of their states, a class for each joint state, and loads.
use Rattle.std.specs.Prelude.{ℕ, List, map, length}
use Rattle.lists.specs.Rows.{joined}
use Rattle.joint_states.specs.JointStates.{joint_states}
use Rattle.study.specs.declared.Load.{Load}
use Rattle.paths.specs.Paths.{paths}

pub record Model : Type 0 where
  -- the state count of each component, in order
  pub counts : List ℕ
  -- for each component, the probabilities of its states in units; four places each
  pub probabilities : List (List ℕ)
  -- the class of each joint state: the structure function of reliability engineering
  pub class : List ℕ → ℕ
  pub loads : List Load

-- how many components it has
abbrev pub components : Model → ℕ
components m = length m.counts

-- the classes of all joint states, by their number
unfoldable pub classes_of : Model → List ℕ
unfolding joint_states
classes_of m = map m.class (joint_states m.counts)

-- its paths, an entry each
unfoldable pub paths_of : Model → List (List ℕ)
unfolding paths classes_of
paths_of m = paths m.counts (classes_of m)

-- the probabilities of all components, one behind the other
unfoldable pub probability_table : Model → List ℕ
unfolding joined
probability_table m = joined m.probabilities

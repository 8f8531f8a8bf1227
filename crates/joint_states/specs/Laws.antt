-- What the list of all joint states holds.
use Rattle.std.specs.Prelude.{ℕ, ◌<◌, ◌≡◌, List, [], length, get_or}
use Rattle.lists.specs.Product.{product}
use Rattle.joint_states.specs.JointStates.{JointState, joint_states, number_of}

-- Joint states and nothing else, each of them once: at the place that is its number.
pub record AllJointStates (counts : List ℕ) : Type 0 where
  pub many : length (joint_states counts) ≡ product counts
  pub joint : (k : ℕ) → k < product counts → JointState counts (get_or (joint_states counts) k [])
  pub numbered : (k : ℕ) → k < product counts → number_of counts (get_or (joint_states counts) k []) ≡ k
  pub below : (x : List ℕ) → JointState counts x → number_of counts x < product counts
  pub at_number : (x : List ℕ) → JointState counts x → get_or (joint_states counts) (number_of counts x) [] ≡ x

abbrev pub JointStatesListed : Type 0
JointStatesListed = (counts : List ℕ) → AllJointStates counts

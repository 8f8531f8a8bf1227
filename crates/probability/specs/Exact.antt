-- The exact probability of a set of joint states: a whole number over one to the power of the number of components. It knows no paths.
use Rattle.std.specs.Prelude.{ℕ, ◌*◌, Bool, List, [], ◌∷◌, get_or}
use Rattle.lists.specs.Counting.{those, sum_over}
use Rattle.joint_states.specs.JointStates.{joint_states}

-- the product of the probabilities of a joint state's states, from a row of them for each component
unfoldable pub weight : List (List ℕ) → List ℕ → ℕ
weight rows [] = 1
weight [] (s ∷ x) = 1
weight (row ∷ rows) (s ∷ x) = get_or row s 0 * weight rows x

-- document 01's "exact": each joint state concerned adds the product of its states' probabilities
unfoldable pub exact : List (List ℕ) → List ℕ → (List ℕ → Bool) → ℕ
unfolding sum_over those weight joint_states
exact rows counts concerned = sum_over (weight rows) (those concerned (joint_states counts))

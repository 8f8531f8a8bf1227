-- Joint states: a state for each component, all of them in order.
use Rattle.std.specs.Prelude.{ℕ, zero, suc, ◌+◌, ◌*◌, ◌^◌, ◌<◌, ◌≡◌, List, [], ◌∷◌, ◌++◌, map, length, get_or}
use Rattle.lists.specs.Product.{product}

-- a joint state of components with these state counts: one state for each, below its count
pub record JointState (counts x : List ℕ) : Type 0 where
  pub long : length x ≡ length counts
  pub below : (k : ℕ) → k < length counts → get_or x k 0 < get_or counts k 0

-- the n states of a component from s on; the mark of each stands in front of every row that `rows` gives for it
unfoldable pub divided : (ℕ → ℕ) → (ℕ → List (List ℕ)) → ℕ → ℕ → List (List ℕ)
divided mark rows s zero = []
divided mark rows s (suc n) = map (λ (row : List ℕ). mark s ∷ row) (rows s) ++ divided mark rows (s + 1) n

-- all joint states in order: component 0 varies slowest, up first
unfoldable pub joint_states : List ℕ → List (List ℕ)
unfolding divided
joint_states [] = [] ∷ []
joint_states (c ∷ cs) = divided (λ s. s) (λ s. joint_states cs) 0 c

-- the number of a joint state in that order
unfoldable pub number_of : List ℕ → List ℕ → ℕ
unfolding product
number_of [] x = 0
number_of (c ∷ cs) [] = 0
number_of (c ∷ cs) (s ∷ x) = s * product cs + number_of cs x

-- the most joint states whose numbers fit 64 bits
abbrev pub most_numbered : ℕ
most_numbered = 2 ^ 64

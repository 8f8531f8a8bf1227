-- A study as long as any that opens: six components of four states, which have 4,096 joint states, and every other
-- count and field as its record can hold.
use Rattle.std.specs.Prelude.{ℕ, ◌≡◌, List, [], ◌∷◌, ◌++◌, length, replicate}
use Rattle.lists.specs.Rows.{joined}
use Rattle.rules.specs.Limits.{longest_study, most_gates, most_gate_inputs, most_loads, most_states, most_tests}
use Rattle.opening.specs.Laws.{IsOpened}

-- a component record: the map, the state count and three probabilities of 0
unfoldable pub component_bytes : List ℕ
component_bytes = 15 ∷ most_states ∷ replicate 12 0

-- the count of tests, and so many, each of component 0 by a mask of state 0
unfoldable pub tests_bytes : List ℕ
unfolding joined
tests_bytes = most_tests ∷ joined (replicate most_tests (0 ∷ 1 ∷ []))

-- the record of gate 0: the map, threshold 1 and the tests
unfoldable pub first_gate_bytes : List ℕ
unfolding tests_bytes
first_gate_bytes = 3 ∷ 1 ∷ tests_bytes

-- the record of any other gate, which has gate 0 as so many gate inputs besides
unfoldable pub gate_bytes : List ℕ
unfolding tests_bytes
gate_bytes = 7 ∷ 1 ∷ tests_bytes ++ most_gate_inputs ∷ replicate most_gate_inputs 0

-- a load record: the map, loss gate 0, no customers and no minutes
unfoldable pub load_bytes : List ℕ
load_bytes = 7 ∷ replicate 9 0

unfoldable pub longest_bytes : List ℕ
unfolding joined component_bytes first_gate_bytes gate_bytes load_bytes
longest_bytes =
    (6 ∷ most_gates ∷ most_loads ∷ [])
    ++ joined (replicate 6 component_bytes)
    ++ first_gate_bytes
    ++ joined (replicate 31 gate_bytes)
    ++ joined (replicate most_loads load_bytes)

-- Some bytes as many as the longest study open.
pub record LongestOpens : Type 0 where
  pub long : length longest_bytes ≡ longest_study
  pub opens : IsOpened longest_bytes

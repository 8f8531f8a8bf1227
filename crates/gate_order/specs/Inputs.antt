-- The inputs of a gate as rows: its tests, and its gate inputs. How many they are, each counted once however often it
-- stands there.
use Rattle.std.specs.Prelude.{ℕ, ◌+◌, List, map, length, take}
use Rattle.ordering.specs.Distinct.{distinct}
use Rattle.ordering.specs.Inputs.{Input, paired}
use Rattle.study.specs.declared.Gate.{Gate}

-- the tests of a gate, as they stand
abbrev pub tests_of : Gate → List Input
tests_of g = take g.tests (paired g.component g.mask)

-- its gate inputs, as they stand
abbrev pub unmasked : ℕ → Input
unmasked n = record { number = n; mask = 0 }

abbrev pub gate_inputs_of : Gate → List Input
gate_inputs_of g = take g.gates (map unmasked g.input)

-- how many inputs a gate has, tests and gates together, by which its threshold is judged
unfoldable pub input_count : Gate → ℕ
unfolding paired distinct
input_count g = length (distinct (tests_of g)) + length (distinct (gate_inputs_of g))

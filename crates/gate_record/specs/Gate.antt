-- Reading a gate record. Bit 0: the threshold. Bit 1: the tests. Bit 2: the gate inputs.
use Rattle.std.specs.Prelude.{ℕ, cond, List, eqb, length, get_or, set}
use Rattle.rules.specs.Limits.{gate_maps, most_tests, most_gate_inputs}
use Rattle.rules.specs.Table.{inputs_fault, no_component_fault, mask_fault, ahead_fault, threshold_fault}
use Rattle.reading.specs.Reader.{Reader, byte, judge, return, repeat, ◌>>=◌, ◌>>◌}
use Rattle.reading.specs.Fields.{fields_by_map}
use Rattle.study.specs.declared.Gate.{Gate}
use Rattle.study.specs.Absent.{absent_gate}
use Rattle.gate_order.specs.Inputs.{input_count}

abbrev pub with_threshold : ℕ → Gate → Gate
with_threshold n g =
    record { threshold = n; tests = g.tests; component = g.component; mask = g.mask; gates = g.gates; input = g.input }

abbrev pub with_tests : ℕ → Gate → Gate
with_tests n g =
    record { threshold = g.threshold; tests = n; component = g.component; mask = g.mask; gates = g.gates; input = g.input }

abbrev pub with_gates : ℕ → Gate → Gate
with_gates n g =
    record { threshold = g.threshold; tests = g.tests; component = g.component; mask = g.mask; gates = n; input = g.input }

-- test j is of this component, by this mask
abbrev pub with_test : ℕ → ℕ → ℕ → Gate → Gate
with_test j component mask g =
    record {
      threshold = g.threshold;
      tests = g.tests;
      component = set g.component j component;
      mask = set g.mask j mask;
      gates = g.gates;
      input = g.input;
    }

-- gate input j is this gate
abbrev pub with_input : ℕ → ℕ → Gate → Gate
with_input j gate g =
    record {
      threshold = g.threshold;
      tests = g.tests;
      component = g.component;
      mask = g.mask;
      gates = g.gates;
      input = set g.input j gate;
    }

unfoldable pub threshold : Gate → Reader Gate
threshold g = do
  n ← byte
  return (with_threshold n g)

-- a count of tests or of gate inputs
unfoldable pub inputs_byte : ℕ → Reader ℕ
inputs_byte most = do
  n ← byte
  judge (inputs_fault most n)
  return n

-- test j: a component, then a mask over that component's states; `counts` has the state count of each component of
-- the study
unfoldable pub test : List ℕ → ℕ → Gate → Reader Gate
test counts j g = do
  component ← byte
  judge (no_component_fault (length counts) component)
  mask ← byte
  judge (mask_fault (get_or counts component 0) mask)
  return (with_test j component mask g)

unfoldable pub tests : List ℕ → Gate → Reader Gate
tests counts g = do
  n ← inputs_byte most_tests
  repeat (test counts) n (with_tests n g)

-- gate input j of the gate with this number
unfoldable pub input : ℕ → ℕ → Gate → Reader Gate
input gate j g = do
  n ← byte
  judge (ahead_fault gate n)
  return (with_input j n g)

unfoldable pub inputs : ℕ → Gate → Reader Gate
inputs gate g = do
  n ← inputs_byte most_gate_inputs
  repeat (input gate) n (with_gates n g)

unfoldable pub gate_field : List ℕ → ℕ → ℕ → Gate → Reader Gate
gate_field counts gate k g = cond (eqb k 0) (threshold g) (cond (eqb k 1) (tests counts g) (inputs gate g))

-- the record of the gate with this number; the threshold is judged after the last field, by the number of distinct
-- inputs
unfoldable pub gate : List ℕ → ℕ → Reader Gate
unfolding input_count
gate counts number = do
  g ← fields_by_map gate_maps (gate_field counts number) absent_gate
  judge (threshold_fault (input_count g) g.threshold)
  return g

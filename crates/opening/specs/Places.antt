-- What the code of opening reads: the same study, whose gates are put in order as they are read. Only the code needs
-- these.
use Rattle.std.specs.Prelude.{ℕ, List, take}
use Rattle.rules.specs.Limits.{most_components, most_gates, most_loads}
use Rattle.reading.specs.Reader.{Reader, return, repeat, ◌>>=◌}
use Rattle.study.specs.declared.Gate.{Gate}
use Rattle.study.specs.declared.Study.{Study}
use Rattle.study.specs.Joint.{states}
use Rattle.study.specs.Zero.{no_components, no_gates, no_loads}
use Rattle.gate_record.specs.Places.{gate_in_order}
use Rattle.opening.specs.Opening.{count, component_record, load_record, placing}

-- the same gate with its inputs in order
abbrev pub gate_record_in_order : List ℕ → ℕ → List Gate → Reader Gate
gate_record_in_order counts i gs = gate_in_order counts i

unfoldable pub study_in_order : Reader Study
study_in_order = do
  components ← count most_components
  gates ← count most_gates
  loads ← count most_loads
  cs ← repeat (placing component_record) components no_components
  gs ← repeat (placing (gate_record_in_order (take components (states cs)))) gates no_gates
  ls ← repeat (placing (load_record gates)) loads no_loads
  return (record { components = components; gates = gates; loads = loads; component = cs; gate = gs; load = ls })

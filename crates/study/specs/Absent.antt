-- The values of fields that a record does not give.
use Rattle.rules.specs.Limits.{fewest_states, never}
use Rattle.study.specs.Zero.{zero_gate}
use Rattle.study.specs.declared.Component.{Component}
use Rattle.study.specs.declared.Gate.{Gate}
use Rattle.study.specs.declared.Load.{Load}

-- two states, and probability 0 of states 1 to 3
abbrev pub absent_component : Component
absent_component = record { states = fewest_states; p1 = 0; p2 = 0; p3 = 0 }

-- threshold 1, and no inputs
unfoldable pub absent_gate : Gate
unfolding zero_gate
absent_gate =
    record {
      threshold = 1;
      tests = 0;
      component = zero_gate.component;
      mask = zero_gate.mask;
      gates = 0;
      input = zero_gate.input;
    }

-- never lost, no customers, no minutes
abbrev pub absent_load : Load
absent_load = record { gate = never; customers = 0; minutes = 0 }

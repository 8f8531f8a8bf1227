-- The order of a gate's inputs: tests ascend by component, then by mask, and gate inputs ascend. Unused places stay
-- behind them.
use Rattle.std.specs.Prelude.{map}
use Rattle.lists.specs.Rows.{put}
use Rattle.ordering.specs.Inputs.{paired, numbers, masks, Ascending, sorted}
use Rattle.study.specs.declared.Gate.{Gate}
use Rattle.study.specs.declared.Study.{Study}
use Rattle.gate_order.specs.Inputs.{tests_of, gate_inputs_of}

-- the inputs of a gate stand in order
pub record InOrder (g : Gate) : Type 0 where
  pub tests : Ascending (tests_of g)
  pub gate_inputs : Ascending (gate_inputs_of g)

-- a gate with its inputs in order; the places behind them are as they were
unfoldable pub in_order : Gate → Gate
unfolding put paired sorted
in_order g =
    record {
      threshold = g.threshold;
      tests = g.tests;
      component = put g.component 0 (numbers (sorted (tests_of g)));
      mask = put g.mask 0 (masks (sorted (tests_of g)));
      gates = g.gates;
      input = put g.input 0 (numbers (sorted (gate_inputs_of g)));
    }

-- a study with the inputs of each gate in order
unfoldable pub ordered : Study → Study
unfolding in_order
ordered t =
    record {
      components = t.components;
      gates = t.gates;
      loads = t.loads;
      component = t.component;
      gate = map in_order t.gate;
      load = t.load;
    }

-- What the class table is filled from: a gate with its distinct inputs alone, and the row of masks that gate inputs
-- are given. Only the code needs these.
use Rattle.std.specs.Prelude.{ℕ, List, length, replicate}
use Rattle.lists.specs.Rows.{put}
use Rattle.ordering.specs.Distinct.{distinct}
use Rattle.ordering.specs.Inputs.{paired, numbers, masks}
use Rattle.rules.specs.Limits.{most_gate_inputs}
use Rattle.study.specs.declared.Gate.{Gate}
use Rattle.gate_order.specs.Inputs.{tests_of, gate_inputs_of}

-- the masks of gate inputs, as a row beside them
unfoldable pub no_masks : List ℕ
no_masks = replicate most_gate_inputs 0

-- a gate with its distinct inputs alone; the places behind them are as they were
unfoldable pub distinct_gate : Gate → Gate
unfolding put paired distinct
distinct_gate g =
    record {
      threshold = g.threshold;
      tests = length (distinct (tests_of g));
      component = put g.component 0 (numbers (distinct (tests_of g)));
      mask = put g.mask 0 (masks (distinct (tests_of g)));
      gates = length (distinct (gate_inputs_of g));
      input = put g.input 0 (numbers (distinct (gate_inputs_of g)));
    }

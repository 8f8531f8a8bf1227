-- The breach of order in a gate's inputs, as the check for 16 finds it. Only the code needs it: `InOrder` says what
-- order is.
use Rattle.std.specs.Prelude.{ℕ}
use Rattle.ordering.specs.Inputs.{paired}
use Rattle.ordering.specs.Sorting.{ascends}
use Rattle.rules.specs.Breach.{first}
use Rattle.rules.specs.Table.{unsound_fault}
use Rattle.study.specs.declared.Gate.{Gate}
use Rattle.gate_order.specs.Inputs.{tests_of, gate_inputs_of}

-- 16 for a gate whose inputs are out of order
unfoldable pub order_fault : Gate → ℕ
unfolding paired ascends
order_fault g = first (unsound_fault (ascends (tests_of g))) (unsound_fault (ascends (gate_inputs_of g)))

-- `gate_record::inputs::read_input_count` meets its contract: a count that is not refused is in range.
use Rattle.std.proofs.Common.{sym}
use Rattle.rules.proofs.Kept.{range-kept}
use Rattle.gate_record.proofs.inputs.read_input_count.Goals as goal

pub returns-clause-kept : goal.returns-clause-kept
returns-clause-kept c = (range-kept 7 _ _ _ (sym c.in_ok-inputs_fault.ensures)).most

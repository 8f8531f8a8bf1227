-- `soundness::inputs::unused_row_fault` meets its contract: a row is judged by whether it is a row of zeros.
use Rattle.std.proofs.Common.{◌∙◌}
use Rattle.soundness.proofs.Unused.{row-judged}
use Rattle.soundness.proofs.inputs.unused_row_fault.Goals as goal

pub returns : goal.returns
returns g c = c.unsound_fault.ensures ∙ row-judged g.row.N c.args.row.now c.told-row c.eq.result c.eq.ensures

-- `report_lines::path_text::path_lines`: the lines of the paths below k are written.
use Rattle.text.proofs.Written.{tabled_more}
use Rattle.report_lines.proofs.path_text.path_lines.Goals as goal

pub loop-k-preserved : goal.loop-k-preserved
loop-k-preserved c = tabled_more c.loop-k.invariant c.loop-k-test.true c.path_line.ensures

-- `report_lines::load_text::load_lines`: the lines of the loads below j are written.
use Rattle.std.proofs.Common.{arith}
use Rattle.text.proofs.Written.{tabled_more}
use Rattle.report_lines.proofs.load_text.load_lines.Goals as goal

pub loop-j-preserved : goal.loop-j-preserved
loop-j-preserved c = tabled_more c.loop-j.invariant (omega arith) c.load_line.ensures

-- `report_lines::class_text::class_lines`: the lines of the classes so far are written.
use Rattle.std.proofs.Common.{arith}
use Rattle.text.proofs.Written.{tabled_more}
use Rattle.report_lines.proofs.class_text.class_lines.Goals as goal

pub loop-class-preserved : goal.loop-class-preserved
loop-class-preserved c = tabled_more c.loop-class.invariant (omega arith) c.class_line.ensures

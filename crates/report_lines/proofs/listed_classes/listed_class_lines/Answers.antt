-- `report_lines::listed_classes::listed_class_lines`: the lines of the classes below c are written.
use Rattle.text.proofs.Written.{tabled_more}
use Rattle.report_lines.proofs.listed_classes.listed_class_lines.Goals as goal

pub loop-c-preserved : goal.loop-c-preserved
loop-c-preserved c = tabled_more c.loop-c.invariant c.loop-c-test.true c.listed_line.ensures

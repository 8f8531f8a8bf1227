-- `report_lines::class_text::class_lines`: the lines of the classes so far are written.
use Rattle.std.proofs.Common.{length}
use Rattle.text.proofs.Written.{Tabled}
use Rattle.report_lines.proofs.Listed.{class_line_at}
use Rattle.report_lines.proofs.class_text.class_lines.Given as goal

abbrev pub invariant-loop-class : goal.invariant-loop-class
invariant-loop-class l = Tabled (class_line_at l.classes l.lower l.upper) (length l.classes) l.initial.out l.class-index l.out

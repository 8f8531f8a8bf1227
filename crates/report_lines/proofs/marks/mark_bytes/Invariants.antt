-- `report_lines::marks::mark_bytes`: the marks so far are written.
use Rattle.text.proofs.Written.{Tabled}
use Rattle.report_lines.proofs.Marked.{mark_at}
use Rattle.report_lines.proofs.marks.mark_bytes.Given as goal

abbrev pub invariant-loop-mark : goal.invariant-loop-mark
invariant-loop-mark l = Tabled (mark_at l.entry) l.n l.initial.out l.mark-index l.out

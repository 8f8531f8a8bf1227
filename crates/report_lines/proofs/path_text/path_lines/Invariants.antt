-- `report_lines::path_text::path_lines`: the lines of the paths below k are written.
use Rattle.text.proofs.Written.{Tabled}
use Rattle.report_lines.proofs.Listed.{line_at}
use Rattle.report_lines.proofs.path_text.path_lines.Given as goal

abbrev pub invariant-loop-k : goal.invariant-loop-k
invariant-loop-k l = let p = l.paths in Tabled (line_at p.probabilities.now p.components p.list.now) p.paths l.initial.out l.k l.out

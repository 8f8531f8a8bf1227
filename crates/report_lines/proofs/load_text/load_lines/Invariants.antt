-- `report_lines::load_text::load_lines`: the lines of the loads below j are written.
use Rattle.text.proofs.Written.{Tabled}
use Rattle.report_lines.specs.Loads.{load_line}
use Rattle.report_lines.proofs.load_text.load_lines.Given as goal

abbrev pub invariant-loop-j : goal.invariant-loop-j
invariant-loop-j l = Tabled (load_line l.lower l.upper) l.loads l.initial.out l.j l.out

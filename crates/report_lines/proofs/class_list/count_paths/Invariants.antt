-- `report_lines::class_list::count_paths`: the paths below k are counted, each at its class (`Counts`).
use Rattle.report_lines.proofs.Counts.{Counts}
use Rattle.report_lines.proofs.class_list.count_paths.Given as goal

abbrev pub invariant-loop-k : goal.invariant-loop-k
invariant-loop-k l = let p = l.paths in Counts p.components p.list.now p.paths l.initial.counts l.k l.counts

-- `report_lines::listed_classes::listed_class_lines`: the lines of the classes below c are written.
use Rattle.text.proofs.Written.{Tabled}
use Rattle.entries.specs.Entries.{class_places, entries_of}
use Rattle.report_lines.specs.ListedClasses.{listed_line}
use Rattle.report_lines.proofs.listed_classes.listed_class_lines.Given as goal

abbrev pub invariant-loop-c : goal.invariant-loop-c
invariant-loop-c l =
    let p = l.paths in
    Tabled (listed_line p.probabilities.now p.components (entries_of p.components p.paths p.list.now)) class_places l.initial.out l.c l.out

-- `report_lines::class_list::list_classes`: the classes below c are listed, each if it has a path (`Tabled`).
use Rattle.std.proofs.Common.{ℕ, List, get_or}
use Rattle.text.proofs.Pieces.{Tabled}
use Rattle.entries.specs.Entries.{class_places}
use Rattle.report_lines.specs.Listing.{class_with}
use Rattle.report_lines.proofs.class_list.list_classes.Given as goal

-- what is written for class c, from counts by class
abbrev pub row : List ℕ → ℕ → List ℕ
row counts c = class_with (get_or counts c 0) c

abbrev pub invariant-loop-c : goal.invariant-loop-c
invariant-loop-c l = Tabled (row l.counts) class_places l.initial.classes 0 l.c l.classes l.listed

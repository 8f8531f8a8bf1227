-- `report_lines::class_list::occurring`: the classes with a count are those that occur, and there are no more of them than paths.
use Rattle.std.proofs.Common.{ℕ, List, length, ap, arith}
use Rattle.entries.specs.Entries.{entries_of}
use Rattle.entries.proofs.Entries.{entries-long}
use Rattle.report_lines.proofs.Borne.{borne-few, borne-counted}
use Rattle.report_lines.proofs.class_list.occurring.Goals as goal

pub list_classes-requires-clause-room : goal.list_classes-requires-clause-room
list_classes-requires-clause-room c =
    let p = c.args.paths.now in
    let entries : List (List ℕ) = entries_of p.components p.paths p.list.now in
    let counted = borne-counted p.components entries c.count_paths.ensures in
    record {
      fits = omega (
        arith,
        ap length counted,
        borne-few p.components entries,
        entries-long p.components p.paths p.list.now,
        c.requires.paths_in_bounds,
      );
    }

pub returns-clause-classes : goal.returns-clause-classes
returns-clause-classes c =
    let p = c.args.paths.now in
    rw (borne-counted p.components (entries_of p.components p.paths p.list.now) c.count_paths.ensures) at c.list_classes.ensures

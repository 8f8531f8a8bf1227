-- `report_lines::class_list::list_classes`: the classes below c are listed, each if it has a path (`Tabled`).
use Rattle.std.proofs.Common.{ℕ, get_or, arith}
use Rattle.text.proofs.Pieces.{tabled_start, tabled-room, tabled-more, tabled-done}
use Rattle.report_lines.proofs.Borne.{with_rows}
use Rattle.report_lines.proofs.class_list.list_classes.Goals as goal

pub loop-c-init : goal.loop-c-init
loop-c-init c = tabled_start _ _ (rw (with_rows (λ (k : ℕ). get_or c.args.counts.now k 0)) at c.requires.room)

pub list_class-listed-requires-clause-room : goal.list_class-listed-requires-clause-room
list_class-listed-requires-clause-room c = tabled-room c.loop-c.invariant c.loop-c-test.true

pub loop-c-preserved : goal.loop-c-preserved
loop-c-preserved c = tabled-more c.loop-c.invariant c.loop-c-test.true c.list_class-listed.ensures

pub returns : goal.returns
returns c =
    rw (with_rows (λ (k : ℕ). get_or c.args.counts.now k 0)) (tabled-done c.loop-c.invariant (omega (arith, c.loop-c-test.false)))

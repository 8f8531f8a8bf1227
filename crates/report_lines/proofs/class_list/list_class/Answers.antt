-- `report_lines::class_list::list_class` meets its contract, for a class that a path bears and for one that none bears.
use native.Mathlib.Omega.{arith}
use Rattle.text.proofs.Pieces.{wrote_none, wrote_one}
use Rattle.report_lines.proofs.Borne.{with_none, with-some}
use Rattle.report_lines.proofs.class_list.list_class.Goals as goal

pub returns-then-paths-eq0 : goal.returns-then-paths-eq0
returns-then-paths-eq0 c =
    rw (with_none c.args.paths c.args.c c.if-paths-eq0.true) (wrote_none _ _ (omega (arith, c.requires.room.fits)))

pub bounds-classes-at : goal.bounds-classes-at
bounds-classes-at c =
    let room = rw (with-some c.args.paths c.args.c c.if-paths-eq0.false) at c.requires.room in omega (arith, room.fits)

pub returns : goal.returns
returns c =
    rw (with-some c.args.paths c.args.c c.if-paths-eq0.false) (wrote_one _ _ _ (rw (with-some c.args.paths c.args.c c.if-paths-eq0.false) at c.requires.room))

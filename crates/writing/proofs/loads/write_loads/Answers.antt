-- `writing::loads::write_loads` meets its contract: the records of the loads gone by are written (`Tabled`).
use Rattle.std.proofs.Common.{◌<◌, arith}
use Rattle.std.proofs.Math.Seq.{get_or-take}
use Rattle.soundness.proofs.Ranges.{loads-most}
use Rattle.study.specs.Zero.{zero_load}
use Rattle.text.proofs.Written.{tabled_start, tabled_more}
use Rattle.writing.proofs.loads.write_loads.Goals as goal

pub shared_ref_as_front-l-items : goal.shared_ref_as_front-l-items
shared_ref_as_front-l-items c =
    omega (arith, c.from.ensures, loads-most _ c.requires.sound)

pub loop-l-init : goal.loop-l-init
loop-l-init c =
    tabled_start c.requires.room

pub write_load-requires : goal.write_load-requires
write_load-requires c =
    let below : c.loop-l.l-index < c.args.t.now.loads = omega (arith, c.from.ensures, c.loop-l-test.true) in
    let here = get_or-take c.from.result c.args.t.now.load c.loop-l.l-index zero_load (omega (arith, c.from.ensures, below)) in
    rw here (c.loop-l.invariant.next below)

pub loop-l-preserved : goal.loop-l-preserved
loop-l-preserved c =
    let below : c.loop-l.l-index < c.args.t.now.loads = omega (arith, c.from.ensures, c.loop-l-test.true) in
    let here = get_or-take c.from.result c.args.t.now.load c.loop-l.l-index zero_load (omega (arith, c.from.ensures, below)) in
    tabled_more c.loop-l.invariant below (rw here at c.write_load.ensures)

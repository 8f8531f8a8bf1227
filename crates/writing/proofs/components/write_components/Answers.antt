-- `writing::components::write_components` meets its contract: the records of the components gone by are written (`Tabled`).
use Rattle.std.proofs.Common.{◌<◌, arith}
use Rattle.std.proofs.Math.Seq.{get_or-take}
use Rattle.soundness.proofs.Ranges.{components-most}
use Rattle.study.specs.Zero.{zero_component}
use Rattle.text.proofs.Written.{tabled_start, tabled_more}
use Rattle.writing.proofs.components.write_components.Goals as goal

pub shared_ref_as_front-c-items : goal.shared_ref_as_front-c-items
shared_ref_as_front-c-items c =
    omega (arith, c.from.ensures, components-most _ c.requires.sound)

pub loop-c-init : goal.loop-c-init
loop-c-init c =
    tabled_start c.requires.room

pub write_component-requires : goal.write_component-requires
write_component-requires c =
    let below : c.loop-c.c-index < c.args.t.now.components = omega (arith, c.from.ensures, c.loop-c-test.true) in
    let here = get_or-take c.from.result c.args.t.now.component c.loop-c.c-index zero_component (omega (arith, c.from.ensures, below)) in
    rw here (c.loop-c.invariant.next below)

pub loop-c-preserved : goal.loop-c-preserved
loop-c-preserved c =
    let below : c.loop-c.c-index < c.args.t.now.components = omega (arith, c.from.ensures, c.loop-c-test.true) in
    let here = get_or-take c.from.result c.args.t.now.component c.loop-c.c-index zero_component (omega (arith, c.from.ensures, below)) in
    tabled_more c.loop-c.invariant below (rw here at c.write_component.ensures)

-- `writing::gates::write_gates` meets its contract: the records of the gates gone by are written (`Tabled`).
use Rattle.std.proofs.Common.{◌<◌, arith}
use Rattle.std.proofs.Math.Seq.{get_or-take}
use Rattle.soundness.proofs.Ranges.{gates-most, tests-most, gate-inputs-most}
use Rattle.study.specs.Places.{no_gate}
use Rattle.text.proofs.Written.{tabled_start, tabled_more}
use Rattle.writing.proofs.gates.write_gates.Goals as goal

pub shared_ref_as_front-g-items : goal.shared_ref_as_front-g-items
shared_ref_as_front-g-items c =
    omega (arith, c.from.ensures, gates-most _ c.requires.sound)

pub loop-g-init : goal.loop-g-init
loop-g-init c =
    tabled_start c.requires.room

pub write_gate-requires : goal.write_gate-requires
write_gate-requires c =
    let below : c.loop-g.g-index < c.args.t.now.gates = omega (arith, c.from.ensures, c.loop-g-test.true) in
    let room = c.loop-g.invariant.next below in
    let here = get_or-take c.from.result c.args.t.now.gate c.loop-g.g-index no_gate (omega (arith, c.from.ensures, below)) in
    rw here (record {
      tests_le_most_tests = tests-most _ c.requires.sound _ below;
      gates_le_most_gate_inputs = gate-inputs-most _ c.requires.sound _ below;
      room = room;
    })

pub loop-g-preserved : goal.loop-g-preserved
loop-g-preserved c =
    let below : c.loop-g.g-index < c.args.t.now.gates = omega (arith, c.from.ensures, c.loop-g-test.true) in
    let here = get_or-take c.from.result c.args.t.now.gate c.loop-g.g-index no_gate (omega (arith, c.from.ensures, below)) in
    tabled_more c.loop-g.invariant below (rw here at c.write_gate.ensures)

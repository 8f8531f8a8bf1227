-- `writing::gates::gate_map` meets its contract: a bit stands where its field is given.
use Rattle.std.proofs.Common.{refl, ◌∙◌}
use Rattle.study.specs.Absent.{absent_gate}
use Rattle.study_bytes.proofs.Fields.{field-bit, byte-bit}
use Rattle.writing.proofs.Maps.{map-of-three}
use Rattle.writing.proofs.gates.gate_map.Goals as goal

pub returns : goal.returns
returns c =
    let k = c.args.g.now in
    (rw c.absent_gate-absent.ensures at c.map_of.ensures)
    ∙ map-of-three
    (byte-bit absent_gate.threshold k.threshold refl)
    (field-bit absent_gate.tests k.tests refl k.tests _)
    (field-bit absent_gate.gates k.gates refl k.gates _)

-- `study_image::components::write_component` meets its contract: its fields are written one behind the other.
use Rattle.std.proofs.Common.{arith}
use Rattle.study_image.proofs.Writing.{wrote_more}
use Rattle.study_image.proofs.components.write_component.Goals as goal

pub returns-clause-written : goal.returns-clause-written
returns-clause-written c =
    let room = c.requires in
    let two = wrote_more c.put.ensures c.put-2.ensures (omega arith) in
    let three = wrote_more two c.put-3.ensures (omega arith) in
    let all = wrote_more three c.put-4.ensures (omega arith) in
    rw (c.to_le_bytes.ensures, c.to_le_bytes-2.ensures, c.to_le_bytes-3.ensures) at all

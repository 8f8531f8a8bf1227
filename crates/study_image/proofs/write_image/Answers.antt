-- `study_image::write_image` meets its contract: its fields are written one behind the other.
use Rattle.std.proofs.Common.{◌∙◌, arith, rules}
use Rattle.study_image.proofs.Writing.{image_written}
use Rattle.study_image.proofs.write_image.Goals as goal

pub returns-clause-written : goal.returns-clause-written
returns-clause-written c =
    let new = c.new-image.ensures in
    let loads = c.write_loads.ensures.written in
    let gates = c.write_gates.ensures.written in
    let components = c.write_components.ensures.written in
    let counts = c.put.ensures in
    let whole = image_written c.args.study.now new.bytes new.none counts components gates loads (omega arith) in
    let same = loads.same_buffer ∙ gates.same_buffer ∙ components.same_buffer ∙ counts.same_buffer ∙ new.same_buffer in
    search (rules, whole, same)

-- `writing::components::component_map` meets its contract: a bit stands where its field is given.
use Rattle.std.proofs.Common.{refl, ◌∙◌}
use Rattle.study.specs.Absent.{absent_component}
use Rattle.study_bytes.proofs.Fields.{byte-bit, number_bit}
use Rattle.writing.proofs.Maps.{map-of-four}
use Rattle.writing.proofs.components.component_map.Goals as goal

pub returns : goal.returns
returns c =
    let k = c.args.c.now in
    (rw c.absent_component-absent.ensures at c.map_of.ensures)
    ∙ map-of-four
    (byte-bit absent_component.states k.states refl)
    (number_bit absent_component.p1 k.p1 refl)
    (number_bit absent_component.p2 k.p2 refl)
    (number_bit absent_component.p3 k.p3 refl)

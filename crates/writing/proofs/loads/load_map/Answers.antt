-- `writing::loads::load_map` meets its contract: a bit stands where its field is given.
use Rattle.std.proofs.Common.{refl, ◌∙◌}
use Rattle.study.specs.Absent.{absent_load}
use Rattle.study_bytes.proofs.Fields.{byte-bit, number_bit}
use Rattle.writing.proofs.Maps.{map-of-three}
use Rattle.writing.proofs.loads.load_map.Goals as goal

pub returns : goal.returns
returns c =
    let k = c.args.l.now in
    (rw c.absent_load-absent.ensures at c.map_of.ensures)
    ∙ map-of-three
    (byte-bit absent_load.gate k.gate refl)
    (number_bit absent_load.customers k.customers refl)
    (number_bit absent_load.minutes k.minutes refl)

-- `export_studies::images::store` meets its contract: with the room, the image holds the study.
use Rattle.std.proofs.Common.{ap, sym, ◌∙◌}
use Rattle.rules.proofs.Rows.{room-kept}
use Rattle.study_image.specs.Image.{study_in}
use Rattle.study_image.proofs.ImageBack.{image-back}
use Rattle.export_studies.proofs.images.store.Goals as goal

pub write_image-requires : goal.write_image-requires
write_image-requires c =
    room-kept _ _ (sym c.in_ok-room_fault.ensures)

pub returns-clause-held : goal.returns-clause-held
returns-clause-held c none =
    ap study_in c.write_image.ensures.written ∙ image-back _ _ c.write_image.ensures.fits (room-kept _ _ (sym c.in_ok-room_fault.ensures))

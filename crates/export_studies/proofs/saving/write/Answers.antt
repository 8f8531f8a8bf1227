-- `export_studies::saving::write` meets its contract: the call's own, for the study that the image holds.
use Rattle.export_answers.proofs.Signed.{handed-on}
use Rattle.export_studies.specs.Saving.{Saves}
use Rattle.export_studies.proofs.saving.write.Goals as goal

pub returns : goal.returns
returns c =
    handed-on (Saves _ _ _) c.answer_count.type_inv
    (record {
      answered = rw (rw c.read_image.ensures at c.write.ensures.answer) at c.answer_count.ensures;
      written = rw c.read_image.ensures at c.write.ensures.buffer;
    })

-- `export_studies::images::keep` meets its contract: what was stored is told.
use Rattle.editing.specs.Edits.{edit_answer}
use Rattle.export_studies.proofs.Kept.{stored-kept}
use Rattle.export_studies.proofs.images.keep.Goals as goal

pub returns : goal.returns
returns c =
    let stored = c.store.ensures in
    let answer = edit_answer c.args.outcome c.args.study.now in
    stored-kept c.answer_outcome.type_inv answer _ stored.judged stored.written stored.held c.answer_outcome.ensures

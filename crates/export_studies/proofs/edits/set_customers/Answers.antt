-- `export_studies::edits::set_customers` meets its contract: the edited study is kept, and the slice of a sound study has the room.
use Rattle.editing.specs.Edits.{customers_set, load_edit_fault}
use Rattle.export_studies.proofs.Kept.{edit-keeps}
use Rattle.export_studies.proofs.edits.set_customers.Goals as goal

pub returns : goal.returns
unfolding customers_set load_edit_fault
returns c =
    edit-keeps c.args.image.now _ _ (rw c.read_image-study.ensures at c.set_customers-outcome.ensures) c.keep.type_inv
    c.keep.ensures

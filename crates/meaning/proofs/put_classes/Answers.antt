-- `meaning::put_classes` meets its contract: gates have no breach of their own.
use Rattle.std.proofs.Common.{refl}
use Rattle.fault_tree.specs.Classes.{classes}
use Rattle.model.specs.Model.{classes_of}
use Rattle.meaning.specs.Meaning.{model_of}
use Rattle.meaning.proofs.put_classes.Goals as goal

pub returns-in-Gates : goal.returns-in-Gates
unfolding model_of classes_of classes
returns-in-Gates c = rw c.in-Gates.is (record { is = refl; tabled = λ none. record { holds = c.put_classes.ensures } })

pub returns-in-Tree : goal.returns-in-Tree
returns-in-Tree c = rw c.in-Tree.is c.put_drawn.ensures

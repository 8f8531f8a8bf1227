-- `study_model::in_hand::list_lent` meets its contract: the paths of the model's block are the model's (`Reached`).
use Rattle.study_model.proofs.Reached.{block-listable, block-paths}
use Rattle.study_model.proofs.in_hand.ModelInHand.list_lent.Goals as goal

pub list_lent-requires : goal.list_lent-requires
list_lent-requires c = block-listable c.block.ensures c.args.self.in_hand.good

pub returns : goal.returns
returns c = rw (block-paths c.block.ensures) at c.list_lent.ensures

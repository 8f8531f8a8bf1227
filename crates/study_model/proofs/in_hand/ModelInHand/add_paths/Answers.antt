-- `study_model::in_hand::add_paths` meets its contract: a walk along the model's block brings what the model's paths bring (`Reached`).
use Rattle.study_model.proofs.Reached.{block-reached, block-brings}
use Rattle.study_model.proofs.in_hand.ModelInHand.add_paths.Goals as goal

pub add_totals-requires-clause-reached : goal.add_totals-requires-clause-reached
add_totals-requires-clause-reached g c = block-reached c.block.ensures c.args.self.in_hand.good c.probabilities.ensures

pub returns-clause-lower : goal.returns-clause-lower
returns-clause-lower g c = block-brings c.block.ensures c.probabilities.ensures _ _ c.add_totals.ensures.adds

pub returns-clause-upper : goal.returns-clause-upper
returns-clause-upper g c = block-brings c.block.ensures c.probabilities.ensures _ _ c.add_totals.ensures.adds_2

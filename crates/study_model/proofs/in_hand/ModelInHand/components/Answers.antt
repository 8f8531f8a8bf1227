-- `study_model::in_hand::components` meets its contract: as many components as the model in hand says.
use Rattle.std.proofs.Common.{◌∙◌}
use Rattle.model.proofs.InHand.{held_number}
use Rattle.study_model.proofs.in_hand.ModelInHand.components.Goals as goal

pub returns : goal.returns
returns c = c.from.ensures ∙ held_number c.args.self.in_hand.places c.args.self.classes.now

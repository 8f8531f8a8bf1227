-- `study_model::in_hand::loads` meets its contract: the loads in use stand in front of the load places.
use Rattle.std.proofs.Common.{ap, take}
use Rattle.model.specs.InHand.{model_held}
use Rattle.study_model.proofs.in_hand.ModelInHand.loads.Goals as goal

pub returns : goal.returns
unfolding model_held
returns c = ap (λ n. take n c.args.self.held.now.load) c.from.ensures

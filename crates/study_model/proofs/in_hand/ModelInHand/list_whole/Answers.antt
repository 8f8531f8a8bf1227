-- `study_model::in_hand::list_whole` meets its contract: a buffer with room for any list is not refused.
use Rattle.std.proofs.Common.{refl}
use Rattle.study_model.specs.InHand.{model_in}
use Rattle.study_model.proofs.ListRoom.{list_held, list-taken}
use Rattle.study_model.proofs.in_hand.ModelInHand.list_whole.Goals as goal

pub returns : goal.returns
returns c =
    list_held (model_in c.args.self) c.args.self.in_hand.good c.args.list.now c.requires c.in-Ok.ensures.answer c.in-Ok.ensures.buffer refl

pub unreachable-requires : goal.unreachable-requires
unreachable-requires c =
    absurd (list-taken (model_in c.args.self) c.args.self.in_hand.good c.args.list.now c.requires c.in-Err.ensures.answer refl)

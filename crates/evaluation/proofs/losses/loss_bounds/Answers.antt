-- `evaluation::losses::loss_bounds` meets its contract: the arrays hold nothing before the paths are added, and the bounds enclose exact probabilities.
use Rattle.evaluation.proofs.Bounding.{lower-losses, upper-losses}
use Rattle.evaluation.proofs.LossOrder.{losses-found}
use Rattle.evaluation.proofs.losses.loss_bounds.Goals as goal

pub returns : goal.returns
returns c =
    let good = c.args.model.in_hand.good in
    losses-found _ good
    (lower-losses _ good c.no_totals-lower.ensures c.add_paths.ensures.lower)
    (upper-losses _ good c.no_totals-upper.ensures c.add_paths.ensures.upper)

-- `evaluation::classes::write_classes` meets its contract: what is added stands at places that were cleared first.
use Rattle.evaluation.proofs.Bounding.{lower-totals, upper-totals}
use Rattle.evaluation.proofs.classes.write_classes.Goals as goal

pub returns-clause-lower : goal.returns-clause-lower
returns-clause-lower c =
    lower-totals _ c.args.model.in_hand.good _ c.clear.ensures c.requires.class_places_in_bounds c.add_paths.ensures.lower

pub returns-clause-upper : goal.returns-clause-upper
returns-clause-upper c =
    upper-totals _ c.args.model.in_hand.good _ c.clear-2.ensures c.requires.class_places_in_bounds_2 c.add_paths.ensures.upper

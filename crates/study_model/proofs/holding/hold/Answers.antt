-- `study_model::holding::hold` meets its contract: the arrays of the study hold its model in front (`study-held`).
use Rattle.std.proofs.Common.{rules}
use Rattle.lists.proofs.Maps.{mapped}
use Rattle.soundness.proofs.Ranges.{probabilities-sum}
use Rattle.study_model.proofs.StudyHeld.{study-held}
use Rattle.study_model.proofs.holding.hold.Goals as goal

pub probability_table-requires : goal.probability_table-requires
probability_table-requires c = probabilities-sum c.args.study.now c.requires

pub returns : goal.returns
returns c =
    rw c.load_places.ensures.same
    (study-held c.requires (search (mapped, rules)) c.load_places.ensures.places c.state_counts.ensures c.probability_table.ensures)

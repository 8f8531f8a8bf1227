-- `study_model::in_hand::listed` meets its contract: the list and the table are the model's.
use Rattle.model.proofs.Table.{table-most}
use Rattle.study_model.specs.InHand.{model_in}
use Rattle.study_model.proofs.in_hand.ModelInHand.listed.Goals as goal

pub invariant_of-result : goal.invariant_of-result
invariant_of-result c =
    let m = model_in c.args.self in
    record {
      boundable = record {
        table = record { each = λ k. rw c.probabilities.ensures (table-most m c.requires.good k) };
        room = rw c.components.ensures c.requires.room;
      };
    }

pub returns : goal.returns
returns c =
    record {
      probabilities = c.probabilities.ensures;
      components = c.components.ensures;
      paths = c.requires.number;
      entries = rw c.components.ensures c.requires.entries;
    }

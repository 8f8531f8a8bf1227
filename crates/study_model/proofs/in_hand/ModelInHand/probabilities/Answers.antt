-- `study_model::in_hand::probabilities` meets its contract: the front of the table has the rows of the components in use.
use Rattle.std.proofs.Common.{◌*◌, ◌∙◌, sym, ap, take}
use Rattle.rules.specs.Limits.{most_states}
use Rattle.model.proofs.InHand.{held_number, held-table, held-inside}
use Rattle.study_model.proofs.in_hand.ModelInHand.probabilities.Goals as goal

pub first_components-requires : goal.first_components-requires
first_components-requires c =
    let hand = c.args.self.in_hand in
    rw (c.components.ensures, ← held_number hand.places c.args.self.classes.now) (held-inside hand.places)

pub returns : goal.returns
returns c =
    let held = c.args.self.held.now in
    let classes = c.args.self.classes.now in
    let number = c.components.ensures ∙ sym (held_number c.args.self.in_hand.places classes) in
    c.first_components.ensures ∙ ap (λ n. take (n * most_states) held.probabilities) number ∙ held-table held classes

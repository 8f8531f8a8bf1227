-- `path_calls::classes::class_bounds` meets its contract: the study and its meaning decide where they have a breach, and otherwise the room.
use Rattle.std.proofs.Common.{Err, refl, sym, rules}
use Rattle.rules.proofs.Judged.{some_row}
use Rattle.answers.proofs.Answered.{answered-refused, filled-refused}
use Rattle.probability.specs.Totals.{lower_classes, upper_classes}
use Rattle.study_model.proofs.StudyHeld.{in-hand}
use Rattle.meaning.proofs.Judging.{handed-on, judged-first, judged-next}
use Rattle.meaning.proofs.Tables.{table-values}
use Rattle.path_calls.specs.Bounds.{pair_breach, classes_bounded}
use Rattle.path_calls.proofs.classes.class_bounds.Goals as goal

pub returns-in_err-judged_classes : goal.returns-in_err-judged_classes
unfolding pair_breach classes_bounded
returns-in_err-judged_classes c =
    let r = c.in_err-judged_classes.field-0.0 in
    let some = some_row r in
    rw (handed-on _ r c.from_residual.ensures.1, ← judged-first c.in_err-judged_classes.ensures _ some)
    (record { answer = sym (answered-refused Err _ _ some); lower = sym (filled-refused _ _ _ some); upper = sym (filled-refused _ _ _ some) })

pub hold-requires : goal.hold-requires
hold-requires c = c.in_ok-judged_classes.ensures.is_sound refl

pub invariant_of-model : goal.invariant_of-model
invariant_of-model c = record { in_hand = in-hand _ (c.in_ok-judged_classes.ensures.is_sound refl) c.hold.ensures (search rules) }

pub returns : goal.returns
unfolding pair_breach classes_bounded
returns c =
    let study = c.in_ok-judged_classes.ensures in
    let values = table-values _ _ (study.is_sound refl) c.hold.ensures (search rules) (study.tabled refl) in
    let bounds = c.bound_classes.ensures in
    rw (judged-next study refl, ← values lower_classes, ← values upper_classes)
    (record { answer = bounds.answer_is; lower = bounds.lower_is; upper = bounds.upper_is })

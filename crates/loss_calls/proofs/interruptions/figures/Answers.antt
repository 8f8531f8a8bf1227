-- `loss_calls::interruptions::figures` meets its contract: the study and its meaning decide where they have a breach, and otherwise whether there are
-- customers.
use Rattle.std.proofs.Common.{Err, refl, sym, rules}
use Rattle.rules.proofs.Judged.{some_row}
use Rattle.answers.proofs.Answered.{answered-refused}
use Rattle.probability.specs.Totals.{lower_loads, upper_loads}
use Rattle.study_model.proofs.StudyHeld.{in-hand}
use Rattle.meaning.specs.Meaning.{model_of}
use Rattle.meaning.proofs.Judging.{handed-on, judged-first, judged-next}
use Rattle.meaning.proofs.Tables.{table-values, table-loads}
use Rattle.evaluation.specs.Figures.{figures_by}
use Rattle.loss_calls.specs.Figures.{figures_fault, figures_given}
use Rattle.loss_calls.proofs.interruptions.figures.Goals as goal

pub returns-in_err-judged_classes : goal.returns-in_err-judged_classes
unfolding figures_fault figures_given
returns-in_err-judged_classes c =
    let r = c.in_err-judged_classes.field-0.0 in
    rw (handed-on _ r c.from_residual.ensures.1, ← judged-first c.in_err-judged_classes.ensures _ (some_row r))
    (sym (answered-refused Err _ _ (some_row r)))

pub hold-requires : goal.hold-requires
hold-requires c = c.in_ok-judged_classes.ensures.is_sound refl

pub invariant_of-model : goal.invariant_of-model
invariant_of-model c = record { in_hand = in-hand _ (c.in_ok-judged_classes.ensures.is_sound refl) c.hold.ensures (search rules) }

pub returns : goal.returns
unfolding figures_fault figures_given figures_by model_of
returns c =
    let study = c.in_ok-judged_classes.ensures in
    let sound = study.is_sound refl in
    let values = table-values _ _ sound c.hold.ensures (search rules) (study.tabled refl) in
    let loads = table-loads _ _ sound c.hold.ensures (search rules) (study.tabled refl) in
    rw (judged-next study refl, ← values lower_loads, ← values upper_loads, ← loads) c.figures_in.ensures

-- `path_calls::listing::list_paths` meets its contract: the study and its meaning decide where they have a breach, and otherwise the room.
use Rattle.std.proofs.Common.{Err, refl, sym, rules}
use Rattle.rules.proofs.Judged.{some_row}
use Rattle.answers.proofs.Answered.{answered-refused, filled-refused}
use Rattle.study_model.proofs.StudyHeld.{in-hand}
use Rattle.meaning.proofs.Judging.{handed-on, judged-first, judged-next}
use Rattle.meaning.proofs.Tables.{table-paths}
use Rattle.path_calls.specs.Listing.{list_fault, paths_listed, buffer_listed}
use Rattle.path_calls.proofs.listing.list_paths.Goals as goal

pub returns-in_err-judged_classes : goal.returns-in_err-judged_classes
unfolding list_fault paths_listed buffer_listed
returns-in_err-judged_classes c =
    let r = c.in_err-judged_classes.field-0.0 in
    let some = some_row r in
    rw (handed-on _ r c.from_residual.ensures.1, ← judged-first c.in_err-judged_classes.ensures _ some)
    (record { answer = sym (answered-refused Err _ _ some); buffer = sym (filled-refused _ _ _ some) })

pub hold-requires : goal.hold-requires
hold-requires c = c.in_ok-judged_classes.ensures.is_sound refl

pub invariant_of-model : goal.invariant_of-model
invariant_of-model c = record { in_hand = in-hand _ (c.in_ok-judged_classes.ensures.is_sound refl) c.hold.ensures (search rules) }

pub returns : goal.returns
unfolding list_fault paths_listed buffer_listed
returns c =
    let study = c.in_ok-judged_classes.ensures in
    let same = table-paths _ _ (study.is_sound refl) c.hold.ensures (search rules) (study.tabled refl) in
    rw (judged-next study refl, ← same) c.list_lent.ensures

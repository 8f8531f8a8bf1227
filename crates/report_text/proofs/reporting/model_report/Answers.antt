-- `report_text::reporting::model_report`: the text and both slices are measured before any is written.
use Rattle.std.proofs.Common.{rules, ◌≡◌, sym, ◌∙◌, ap, arith, Err, length}
use Rattle.rules.specs.Refusals.{row_of}
use Rattle.rules.proofs.Judged.{some_row, err_listed, ok_listed}
use Rattle.rules.proofs.Kept.{list-last}
use Rattle.answers.specs.Answers.{by_number}
use Rattle.entries.specs.Entries.{class_places}
use Rattle.study_model.specs.InHand.{model_in}
use Rattle.report_text.specs.Lent.{model_breach}
use Rattle.report_text.specs.Report.{model_text}
use Rattle.report_text.proofs.Reported.{put_refused, put-done, text-room, bounds-room}
use Rattle.report_text.proofs.reporting.model_report.Goals as goal
use Rattle.report_text.proofs.reporting.model_report.Goals.{In_ok-pair_fault}

none : (c : In_ok-pair_fault) → model_breach (model_in c.args.model) c.args.text.now c.args.lower.now c.args.upper.now ≡ 0
none c = ok_listed _ _ c.in_ok-text_fault.ensures.breach ∙ list-last _ ∙ sym c.in_ok-pair_fault.ensures

pub returns-in_err-text_fault : goal.returns-in_err-text_fault
returns-in_err-text_fault c =
    let r = c.in_err-text_fault.field-0.0 in
    let told : by_number c.from_residual.result ≡ Err (row_of r) = search rules in
    rw told (put_refused _ _ _ _ _ _ (err_listed r _ _ c.in_err-text_fault.ensures.breach) (some_row r))

pub returns-in_err-pair_fault : goal.returns-in_err-pair_fault
returns-in_err-pair_fault c =
    let r = c.in_err-pair_fault.field-0.0 in
    let told : by_number c.from_residual-in_err-pair_fault.result ≡ Err (row_of r) = search rules in
    let breach = c.in_err-pair_fault.ensures ∙ sym (ok_listed _ _ c.in_ok-text_fault.ensures.breach ∙ list-last _) in
    rw told (put_refused _ _ _ _ _ _ breach (some_row r))

pub model_text-requires-clause-room : goal.model_text-requires-clause-room
model_text-requires-clause-room c =
    let a = c.args in
    let room = text-room (model_text (model_in a.model)) class_places a.text.now a.lower.now a.upper.now (none (goal.at.model_text-requires-clause-room c).In_ok-pair_fault) in
    record { fits = omega (arith, room, c.new-out.ensures.none, ap length c.new-out.ensures.bytes) }

pub model_text-requires-clause-class_places_in_bounds : goal.model_text-requires-clause-class_places_in_bounds
model_text-requires-clause-class_places_in_bounds c =
    let a = c.args in
    let at = (goal.at.model_text-requires-clause-class_places_in_bounds c).In_ok-pair_fault in
    (bounds-room (model_text (model_in a.model)) class_places a.text.now a.lower.now a.upper.now (none at)).in_lower

pub model_text-requires-clause-class_places_in_bounds_2 : goal.model_text-requires-clause-class_places_in_bounds_2
model_text-requires-clause-class_places_in_bounds_2 c =
    let a = c.args in
    let at = (goal.at.model_text-requires-clause-class_places_in_bounds_2 c).In_ok-pair_fault in
    (bounds-room (model_text (model_in a.model)) class_places a.text.now a.lower.now a.upper.now (none at)).in_upper

pub overflow_cast-result : goal.overflow_cast-result
overflow_cast-result c =
    record { fits = omega (arith, c.in_ok-text_fault.ensures.short, c.size.ensures, c.model_text.ensures.text.behind, c.new-out.ensures.none) }

pub returns : goal.returns
returns c =
    let at = (goal.at.returns c).In_ok-pair_fault in
    let wrote = c.model_text.ensures.text in
    let text = rw (c.new-out.ensures.none, c.new-out.ensures.bytes) at wrote.holds in
    let size : c.size.result ≡ length (model_text (model_in c.args.model)) = omega (arith, c.size.ensures, wrote.behind, c.new-out.ensures.none) in
    put-done _ _ _ _ _ _ (none at) (search rules) size c.model_text.ensures.lower c.model_text.ensures.upper

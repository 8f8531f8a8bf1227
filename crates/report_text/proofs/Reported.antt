-- What a report answers and leaves: where nothing has a breach, where something has one, and where the bytes do not open.
use Prim.Native.Nat.{ℕ, ◌≤◌}
use mathlib.Core.Path.{◌≡◌, refl, sym, ap, ◌∙◌}
use mathlib.Core.Bool.{Bool, true, false}
use mathlib.Core.List.{List, [], ◌∷◌}
use native.Mathlib.Omega.{arith}
use lib.Dec.{eqb}
use lib.ListN.{length}
use borrow.Author.Tests.{eqb-true, eqb-false}
use Rattle.lists.specs.Rows.{put}
use Rattle.lent_text.specs.Lent.{text_fault, reported as handed, written}
use Rattle.rules.specs.Breach.{first, first_breach}
use Rattle.rules.specs.Table.{room_fault}
use Rattle.rules.proofs.Kept.{Neither, list-none, list-last, list-more, first-last, both-kept}
use Rattle.rules.proofs.Rows.{room-none, room-kept}
use Rattle.answers.specs.Answered.{filled}
use Rattle.answers.specs.Told.{tells, count_told}
use Rattle.answers.proofs.Answered.{answered-tells, no-breach, values-told, filled-done, filled-refused}
use Rattle.opening.specs.Opening.{opened}
use Rattle.meaning.specs.Meaning.{by_gates, model_of}
use Rattle.evaluation.specs.Bounds.{class_lowers, class_uppers}
use Rattle.evaluation.specs.Rooms.{pair_fault}
use Rattle.evaluation.proofs.PairPut.{PairRoom, pair-room, pair-refused, pair-done}
use Rattle.report_text.specs.Lent.{room_breaches, ReportPut, ModelReported, places_by, bounds_by, report_fault, reported, buffer_reported, lower_reported, upper_reported}
use Rattle.report_text.specs.Report.{refused_text, report_text}
use Rattle.report_text.proofs.Opened.{text-done, text-refused}
use Rattle.std.specs.Prelude.{Ok, Err}
use Rattle.answers.specs.Answers.{CountAnswer, Outcome, StudyAnswer, finished}

-- ---- a text and bounds for so many places

module _ (report : List ℕ) {breach : ℕ} (lowers uppers text lower upper : List ℕ) where
  pub put_refused : {found : ℕ} → found ≡ breach → (found ≡ 0 → ⊥) → ReportPut report breach lowers uppers text lower upper text lower upper (Err found)
  put_refused is some =
      record {
        text_is = sym (filled-refused breach report text (λ none. some (is ∙ none)));
        bounds = pair-refused Err (Ok (length report)) lowers uppers lower upper is some;
      }

  pub put-done : {text' lower' upper' : List ℕ} {size : ℕ} → breach ≡ 0 → text' ≡ put text 0 report → size ≡ length report → lower' ≡ put lower 0 lowers → upper' ≡ put upper 0 uppers
      → ReportPut report breach lowers uppers text lower upper text' lower' upper' (Ok size)
  put-done {size = size} none wrote number low high =
      record {
        text_is = wrote ∙ sym (filled-done breach report text none);
        bounds = rw number (pair-done Err (Ok (length report)) lowers uppers lower upper none low high);
      }

-- where there is no breach, each has the room
module _ (report : List ℕ) (places : ℕ) (text lower upper : List ℕ) (none : first_breach (room_breaches report places text lower upper) ≡ 0) where
  both : Neither (room_fault (length report) (length text)) (pair_fault places (length lower) (length upper))
  both = both-kept (room_fault (length report) (length text)) (pair_fault places (length lower) (length upper)) none

  pub text-room : length report ≤ length text
  text-room = room-kept (length report) (length text) both.left

  pub bounds-room : PairRoom places (length lower) (length upper)
  bounds-room = pair-room both.right

-- ---- slices that are not looked at

no-places : (lower upper : ℕ) → pair_fault 0 lower upper ≡ 0
unfolding pair_fault
no-places lower upper =
    list-none (room_fault 0 lower) (room_fault 0 upper ∷ []) (room-none 0 lower (omega arith)) (list-last (room_fault 0 upper) ∙ room-none 0 upper (omega arith))

module _ (report text lower upper : List ℕ) where
  -- the text alone decides
  text-decides : first_breach (room_breaches report 0 text lower upper) ≡ text_fault report text
  unfolding text_fault
  text-decides =
      list-more (room_fault (length report) (length text)) (pair_fault 0 (length lower) (length upper)) []
      ∙ ap (first (room_fault (length report) (length text))) (list-last (pair_fault 0 (length lower) (length upper)) ∙ no-places (length lower) (length upper))
      ∙ first-last (room_fault (length report) (length text))
      ∙ sym (list-last (room_fault (length report) (length text)))

  -- nothing is put there
  nothing-filled : (breach : ℕ) (slice : List ℕ) → filled breach [] slice ≡ slice
  unfolding put
  nothing-filled breach slice = go (eqb breach 0) refl
    where
      go : (b : Bool) → eqb breach 0 ≡ b → filled breach [] slice ≡ slice
      go true none = filled-done breach [] slice (eqb-true breach 0 none)
      go false some = filled-refused breach [] slice (eqb-false breach 0 some)

  pub put-unopened : {text' : List ℕ} {answer : CountAnswer} → answer ≡ handed report text → text' ≡ written report text
      → ReportPut report (first_breach (room_breaches report 0 text lower upper)) [] [] text lower upper text' lower upper answer
  unfolding handed written
  put-unopened is-answer is-text =
      let breach = first_breach (room_breaches report 0 text lower upper) in
      record {
        text_is = rw (text-decides) is-text;
        bounds =
            record {
              answer_is = rw (text-decides) is-answer;
              lower_is = sym (nothing-filled breach lower);
              upper_is = sym (nothing-filled breach upper);
            };
      }

-- ---- bytes, by what opening answers

-- what the contract of the call says
abbrev ReportsBytes : (bytes text lower upper text' lower' upper' : List ℕ) → CountAnswer → Type 0
ReportsBytes bytes text lower upper text' lower' upper' r =
    (r ≡ reported bytes text lower upper)
    × ((text' ≡ buffer_reported bytes text lower upper)
    × ((lower' ≡ lower_reported bytes text lower upper) × (upper' ≡ upper_reported bytes text lower upper)))

module _ (bytes : List ℕ) {answer : StudyAnswer} (is : answer ≡ opened bytes) where
  by-outcome : {o : Outcome} {text lower upper text' lower' upper' : List ℕ} {r : CountAnswer} → answer.outcome ≡ o
      → ReportPut (report_text bytes) (first_breach (room_breaches (report_text bytes) (places_by o) text lower upper))
      (bounds_by o (class_lowers (model_of by_gates answer.study))) (bounds_by o (class_uppers (model_of by_gates answer.study)))
      text lower upper text' lower' upper' r
      → ReportsBytes bytes text lower upper text' lower' upper' r
  unfolding reported report_fault
  by-outcome told made =
      let bounds = made.bounds in
      rw (← is, told) (bounds.answer_is, (made.text_is, (bounds.lower_is, bounds.upper_is)))

  pub opened-reported : {text lower upper text' lower' upper' : List ℕ} {r : CountAnswer} → answer.outcome ≡ finished
      → ModelReported (model_of by_gates answer.study) text lower upper text' lower' upper' r → ReportsBytes bytes text lower upper text' lower' upper' r
  opened-reported done made = by-outcome done (rw (← text-done bytes is done) made)

  pub unopened-reported : {n : ℕ} {text' : List ℕ} {r : CountAnswer} (text lower upper : List ℕ) → answer.outcome ≡ Err n → r ≡ handed (refused_text n) text
      → text' ≡ written (refused_text n) text → ReportsBytes bytes text lower upper text' lower upper r
  unopened-reported {n} text lower upper refused is-answer is-text =
      by-outcome refused (rw (← text-refused bytes is refused) (put-unopened (refused_text n) text lower upper is-answer is-text))

-- ---- what a caller may read of the buffer

-- the number of bytes is told, or the breach
pub report-tells : (bytes text lower upper : List ℕ)
    → count_told (reported bytes text lower upper) ≡ tells (report_fault bytes text lower upper) (length (report_text bytes) ∷ [])
unfolding reported
report-tells bytes text lower upper =
    answered-tells Err (report_fault bytes text lower upper) (Ok (length (report_text bytes))) count_told (length (report_text bytes) ∷ []) (λ n. refl) refl

-- the bytes that are counted stand inside the buffer
pub report-inside : (bytes text lower upper : List ℕ) (answer : CountAnswer) (size : ℕ) → answer ≡ reported bytes text lower upper → answer ≡ Ok size
    → size ≤ length text
unfolding report_fault
report-inside bytes text lower upper answer size e is-count =
    let told = ap count_told (sym e ∙ is-count) in
    let tells = report-tells bytes text lower upper in
    let same : length (report_text bytes) ≡ size = cc (values-told _ _ (size ∷ []) tells told) in
    let none = no-breach _ _ (size ∷ []) tells told in
    let room = text-room (report_text bytes) (places_by (opened bytes).outcome) text lower upper none in
    omega (arith, same, room)

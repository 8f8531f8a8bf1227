-- Which breach stands in the way of keeping a study in a slice, and what none tells. An edit has no breach for the room: a slice shorter than an
-- image holds no sound study.
use Prim.Native.Nat.{ℕ, ◌<◌, ◌^◌}
use mathlib.Core.Path.{◌≡◌, refl, sym, ap, subst, ◌∙◌}
use mathlib.Core.Bool.{Bool, true, false}
use mathlib.Core.List.{List, [], ◌∷◌}
use native.Mathlib.Omega.{arith}
use lib.Dec.{eqb, ltb}
use lib.IntN.{ℤ}
use lib.ListN.{length}
use lib.Signed.{mag}
use mir.Syntax.{w64}
use mir.Val.{hbits, to_z, of_z}
use borrow.Author.Tests.{eqb-true, eqb-false}
use Rattle.rules.specs.Breach.{refuse, first, first_breach, outside}
use Rattle.rules.specs.Table.{unsound_fault, room_fault}
use Rattle.rules.specs.declared.refusal.Refusal.{Refusal}
use Rattle.rules.specs.Refusals.{row_of, breach_of}
use Rattle.rules.proofs.Judged.{err_listed, ok_listed, none_listed, some_row}
use Rattle.rules.proofs.Kept.{first_some, first_next, list-kept, list-more, list-last}
use Rattle.study.specs.declared.Study.{Study}
use Rattle.study.specs.Zero.{zero_study}
use Rattle.answers.specs.Answered.{filled}
use Rattle.soundness.specs.Check.{front_fault, sound}
use Rattle.study_image.specs.Places.{image_bytes}
use Rattle.study_image.specs.Image.{image_of, study_in}
use Rattle.std.specs.Prelude.{Result, Ok, Err}
use Rattle.answers.specs.Told.{number_told, outcome_told, tells}
use Rattle.answers.proofs.Answered.{answered-tells, tells-number, tells-result, tells-refusal}
use Rattle.answers.proofs.ByNumber.{filled-by, filled-all}
use Rattle.editing.specs.Edits.{refused_edit, edited}
use Rattle.export_answers.specs.Answers.{below, answered_by, done}
use Rattle.export_answers.proofs.Answering.{breach-answered}
use Rattle.export_answers.proofs.Signed.{handed-on}
use Rattle.export_studies.specs.Images.{refusal_of, keep_fault, Keeps, KeepsStudy, KeepsEdited}
use Rattle.answers.specs.Answers.{StudyAnswer, by_number}

-- ---- what was judged tells

pub outcome-tells : (r : Result (Unit {0}) Refusal) → outcome_told (by_number r) ≡ tells (breach_of r) []
outcome-tells (Ok u) = sym (tells-result 0 [] refl)
outcome-tells (Err refusal) = sym (tells-refusal (row_of refusal) [] (some_row refusal))

-- for the function that stores
pub ruleset keeping = (err_listed, ok_listed, none_listed, filled-by, filled-all, some_row)

-- a refused opening is refused before the room
pub refused-keeps : (refusal : Refusal) (t : Study) (was : List ℕ) → KeepsStudy (record { outcome = Err (row_of refusal); study = t }) was was (below (row_of refusal))
unfolding keep_fault
refused-keeps refusal t was =
    rw (← err_listed refusal (row_of refusal) (room_fault image_bytes (length was) ∷ []) refl)
    (record {
      answered = breach-answered (row_of refusal) [];
      written = sym (filled-by (image_of t) was refusal);
      held = λ none. absurd (some_row refusal none);
    })

module _ {was after : List ℕ} {r : ℤ} (fits : mag r < 2 ^ hbits w64) where
  -- by what was judged, written and told
  pub stored-kept : (answer : StudyAnswer) (stored : Result (Unit {0}) Refusal) → breach_of stored ≡ keep_fault answer was
      → after ≡ filled (breach_of stored) (image_of answer.study) was → (breach_of stored ≡ 0 → study_in after ≡ answer.study)
      → r ≡ answered_by done (outcome_told (by_number stored)) → KeepsStudy answer was after (to_z w64 (of_z w64 r))
  stored-kept answer stored judged written held answered =
      let kept : Keeps (breach_of stored) answer.study was after r = record { answered = answered ∙ ap (answered_by done) (outcome-tells stored); written = written; held = held } in
      handed-on (KeepsStudy answer was after) fits (subst (λ (b : ℕ). Keeps b answer.study was after r) judged kept)

  -- the study of an answer that is known by an equation
  pub kept-as : {a b : StudyAnswer} → a ≡ b → KeepsStudy a was after r → KeepsStudy b was after (to_z w64 (of_z w64 r))
  kept-as {a} {b} e kept = handed-on (KeepsStudy b was after) fits (subst (λ (x : StudyAnswer). KeepsStudy x was after r) e kept)

pub refused-kept : (refusal : Refusal) (t : Study) {was : List ℕ} {r : ℤ} {answer : StudyAnswer} → mag r < 2 ^ hbits w64 → r ≡ below (row_of refusal)
    → record { outcome = Err (row_of refusal); study = t } ≡ answer → KeepsStudy answer was was (to_z w64 (of_z w64 r))
refused-kept refusal t {was} {r} fits is e =
    kept-as fits e (subst (λ (z : ℤ). KeepsStudy (record { outcome = Err (row_of refusal); study = t }) was was z) (sym is) (refused-keeps refusal t was))

-- ---- edits

-- a rule that is kept refuses by nothing
refuse-none : (n : ℕ) → refuse n false ≡ 0
unfolding refuse
refuse-none n = refl

-- a slice shorter than an image holds a study of zeros, which has no components
short-unsound : (slice : List ℕ) → ltb (length slice) image_bytes ≡ true → unsound_fault (sound (study_in slice)) ≡ 16
unfolding study_in sound front_fault first_breach first refuse outside zero_study
short-unsound slice short = rw short

-- so a sound study has the room to be kept again
sound-room : (slice : List ℕ) → unsound_fault (sound (study_in slice)) ≡ 0 → room_fault image_bytes (length slice) ≡ 0
sound-room slice none = go (ltb (length slice) image_bytes) refl
  where
    go : (short : Bool) → ltb (length slice) image_bytes ≡ short → refuse 18 short ≡ 0
    go true e = absurd (omega (arith, short-unsound slice e, none))
    go false e = refuse-none 18

-- an edit is refused by its breach
edited-refusal : (breach : ℕ) (old new : Study) → refusal_of (edited breach old new) ≡ breach
unfolding edited
edited-refusal breach old new =
    ap number_told (answered-tells (refused_edit old) breach _ (λ (a : StudyAnswer). outcome_told a.outcome) [] (λ n. refl) refl)
    ∙ tells-number breach []

-- a second breach that stands only behind a first one decides nothing
spare : (a b : ℕ) → (a ≡ 0 → b ≡ 0) → first a b ≡ a
spare a b behind = go (eqb a 0) refl
  where
    go : (t : Bool) → eqb a 0 ≡ t → first a b ≡ a
    go true e =
        let none = eqb-true a 0 e in
        first_next a b none ∙ behind none ∙ sym none
    go false e = first_some a b (eqb-false a 0 e)

module _ (slice rest : List ℕ) (new : Study) where
  -- what an edit of the study in a slice answers
  abbrev edit : StudyAnswer
  edit = edited (first_breach (unsound_fault (sound (study_in slice)) ∷ rest)) (study_in slice) new

  -- the room adds no breach
  edit-fault : keep_fault edit slice ≡ refusal_of edit
  unfolding keep_fault
  edit-fault =
      let same = edited-refusal (first_breach (unsound_fault (sound (study_in slice)) ∷ rest)) (study_in slice) new in
      rw (list-more, list-last) (spare _ _ (λ none. sound-room slice (list-kept _ rest (sym same ∙ none)).left))

  -- that it is kept does not turn on the room; the answer is handed on
  pub edit-keeps : {answer : StudyAnswer} {after : List ℕ} {r : ℤ} → answer ≡ edit → mag r < 2 ^ hbits w64 → KeepsStudy answer slice after r
      → KeepsEdited edit slice after (to_z w64 (of_z w64 r))
  edit-keeps {answer} {after} {r} is fits kept =
      let keeps : KeepsStudy edit slice after r = subst (λ (a : StudyAnswer). KeepsStudy a slice after r) is kept in
      handed-on (KeepsEdited edit slice after) fits (subst (λ (breach : ℕ). Keeps breach edit.study slice after r) edit-fault keeps)

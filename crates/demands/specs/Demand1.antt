-- Demand 1, refusals: what is refused and what is not, over the definitions that the contracts of the public calls
-- cite.
use Rattle.std.specs.Prelude.{ℕ, ◌≤◌, ◌≡◌, true, List, [], ◌∷◌, length, get_or, take}
use Rattle.lists.specs.OneOf.{OneOf}
use Rattle.rules.specs.Breach.{first_breach}
use Rattle.rules.specs.Table.{room_fault}
use Rattle.answers.specs.Told.{Told, result, refusal, tells, count_told}
use Rattle.study.specs.declared.Study.{Study}
use Rattle.study.specs.Zero.{zero_study}
use Rattle.soundness.specs.Sound.{Sound}
use Rattle.soundness.specs.Check.{sound}
use Rattle.opening.specs.Laws.{IsRefused}
use Rattle.opening.specs.Opening.{opened}
use Rattle.lent_text.specs.Lent.{reported, written}
use Rattle.words.specs.Words.{refusal_word}
use Rattle.report_text.specs.Lent.{report_breaches, report_lowers, report_uppers}
use Rattle.report_text.specs.Lent.{reported as report_given, buffer_reported, lower_reported, upper_reported}
use Rattle.report_text.specs.Report.{report_text}
use Rattle.demands.specs.Calls.{Call, an_edit, call_told, call_breaches, call_values, numbers_behind, study_after}
use Rattle.demands.specs.Calls.{Lent, call_lent}
use Rattle.demands.specs.Edits.{Edit, edit, changed, HasItem, Reached, after, table_of, table_after, others_of}

-- ---- opening

-- The check for 16 says of any value of the struct whether it is sound.
pub record CheckDecides : Type 0 where
  pub accepts : (t : Study) → Sound t → sound t ≡ true
  pub refuses : (t : Study) → sound t ≡ true → Sound t

-- A refused opening returns a study of zeros, which is itself unsound.
pub record RefusedOpening : Type 0 where
  pub zeros : (bytes : List ℕ) (n : ℕ) → IsRefused bytes n → (opened bytes).study ≡ zero_study
  pub unsound : Sound zero_study → ⊥

-- An opening that is not refused returns a sound study.
abbrev pub OpenedSound : Type 0
OpenedSound = Rattle.opening.specs.Laws.OpenedSound

-- Opening refuses by the first breach met from the left.
abbrev pub FirstBreach : Type 0
FirstBreach = Rattle.opening.specs.Laws.FirstBreach

-- Opening refuses by the numbers 1 to 15, and by no other.
abbrev pub OpeningNumbers : Type 0
OpeningNumbers = Rattle.opening.specs.Laws.OpeningRows

-- No bytes longer than 2,023 open, so many do, and the first 2,024 decide what opening answers, whatever follows.
pub record LongestStudy : Type 0 where
  pub law : Rattle.opening.specs.Laws.LongestStudy
  pub reached : Rattle.opening.specs.Longest.LongestOpens

-- ---- every call

-- P holds of everything that was lent
abbrev pub OfEach : (Lent → Type 0) → List Lent → Type 0
OfEach P [] = Unit {0}
OfEach P (l ∷ ls) = P l × OfEach P ls

abbrev pub Kept : Lent → Type 0
Kept l = l.after ≡ l.before

-- its front is the result
abbrev pub FrontFilled : Lent → Type 0
FrontFilled l = take (length l.result) l.after ≡ l.result

-- nothing changes behind what fills its front
abbrev pub KeptBehind : Lent → Type 0
KeptBehind l = (k : ℕ) → length l.result ≤ k → get_or l.after k 0 ≡ get_or l.before k 0

-- A call with these breaches and these values tells the number of the first breach, exactly, or where there is none
-- the values; refused, every lent place holds what it held; not refused, the front of each lent slice is its result;
-- refused or not, nothing changes behind what it writes.
pub record Refuses (told : Told) (breaches values : List ℕ) (lent : List Lent) : Type 0 where
  pub answer : told ≡ tells (first_breach breaches) values
  pub kept : (n : ℕ) → told ≡ refusal n → OfEach Kept lent
  pub front : (others : List ℕ) → told ≡ result others → OfEach FrontFilled lent
  pub behind : OfEach KeptBehind lent

-- So it is of every later call; and refused, the caller has the study that was handed in.
pub record CallsRefuse : Type 0 where
  pub refuses : (c : Call) (t : Study) → Refuses (call_told c t) (call_breaches c t) (call_values c t) (call_lent c t)
  pub study_kept : (c : Call) (t : Study) (n : ℕ) → call_told c t ≡ refusal n → study_after c t ≡ t

-- a call that writes a text: 18 is its only breach, and its value the number of bytes
abbrev pub TextRefuses : List ℕ → List ℕ → Type 0
TextRefuses text buffer =
    Refuses (count_told (reported text buffer)) (room_fault (length text) (length buffer) ∷ []) (length text ∷ [])
    (record { before = buffer; after = written text buffer; result = text } ∷ [])

-- the report of any bytes: 18 for its text, then for two slices, which need a place for each class where the bytes open
-- and none where they do not; its value is the number of bytes, and the bounds of the study's classes fill the slices
abbrev pub ReportRefuses : (bytes text lower upper : List ℕ) → Type 0
ReportRefuses bytes text lower upper =
    Refuses (count_told (report_given bytes text lower upper)) (report_breaches bytes text lower upper)
    (length (report_text bytes) ∷ [])
    (record { before = text; after = buffer_reported bytes text lower upper; result = report_text bytes }
    ∷ record { before = lower; after = lower_reported bytes text lower upper; result = report_lowers bytes }
    ∷ record { before = upper; after = upper_reported bytes text lower upper; result = report_uppers bytes }
    ∷ [])

-- So it is of the report of any bytes, and of the word of any number.
pub record TextsRefuse : Type 0 where
  pub report : (bytes text lower upper : List ℕ) → ReportRefuses bytes text lower upper
  pub word : (number : ℕ) (buffer : List ℕ) → TextRefuses (refusal_word number) buffer

-- Every later call refuses a study that is not sound by 16, and by 16 no other; so one that told values had a sound
-- study.
pub record UnsoundRefused : Type 0 where
  pub sixteen : (c : Call) (t : Study) → (Sound t → ⊥) → call_told c t ≡ refusal 16
  pub no_other : (c : Call) (t : Study) → call_told c t ≡ refusal 16 → Sound t → ⊥
  pub told_sound : (c : Call) (t : Study) (values : List ℕ) → call_told c t ≡ result values → Sound t

-- A later call is refused by the numbers that documents 01 and 02 list for it, and by no other.
abbrev pub NumbersListed : Type 0
NumbersListed = (c : Call) (t : Study) (n : ℕ) → call_told c t ≡ refusal n → OneOf (16 ∷ numbers_behind c) n

-- ---- edits

-- An edit that is not refused returns a sound study.
abbrev pub EditedSound : Type 0
EditedSound = (e : Edit) (t : Study) → call_told (an_edit e) t ≡ result [] → Sound (edit e t).study

-- So every study that the calls hand out is sound.
abbrev pub ReachedSound : Type 0
ReachedSound = (t : Study) → Reached t → Sound t

-- An edit is refused by 5, 6 or 14 only where the edited study would break a rule; where the item is there and the
-- edited study would be sound, it is done.
pub record EditsFinish : Type 0 where
  pub would_break : (t : Study) → Reached t → (e : Edit) (n : ℕ) → call_told (an_edit e) t ≡ refusal n
      → OneOf (5 ∷ 6 ∷ 14 ∷ []) n
      → Sound (changed e t) → ⊥
  pub done : (t : Study) → Reached t → (e : Edit) → HasItem e t → Sound (changed e t)
      → call_told (an_edit e) t ≡ result []

-- After a row of edits the fields are those of a plain table that had the same edits, and all else is as it was.
pub record EditFields : Type 0 where
  pub fields : (t : Study) → Reached t → (es : List Edit) → table_of (after es t) ≡ table_after es (table_of t)
  pub others : (t : Study) (es : List Edit) → others_of (after es t) ≡ others_of t

-- What a call answers, by the numbers of the refusal table: its result, or the number of the refusal.
use Rattle.std.specs.Prelude.{ℕ, Result, Ok, Err}
use Rattle.rules.specs.declared.refusal.Refusal.{Refusal}
use Rattle.rules.specs.Refusals.{row_of}
use Rattle.study.specs.declared.Study.{Study}
use Rattle.units.specs.declared.bounds.Enclosure.{Enclosure}
use Rattle.answers.specs.declared.chances.Chances.{Chances}
use Rattle.answers.specs.declared.counts.PathCount.{PathCount}
use Rattle.answers.specs.declared.figures.Figures.{Figures}
use Rattle.std.specs.Prelude.{Ok, Err}
use Rattle.std.specs.Prelude.{Ok, Err}

abbrev pub Answer : Type 0 → Type 0
Answer A = Result A ℕ

-- The code answers the refusal itself; the papers know it by its number.
abbrev pub by_row : {A E : Type 0} → (E → ℕ) → Result A E → Answer A
by_row row (Ok a) = Ok a
by_row row (Err e) = Err (row e)

abbrev pub by_number : {A : Type 0} → Result A Refusal → Answer A
by_number = by_row row_of

-- of a call that only fills or changes what it was lent
abbrev pub Outcome : Type 0
Outcome = Answer (Unit {0})

-- that it is done
abbrev pub finished : Outcome
finished = Ok tt

-- how many places or bytes a call filled
abbrev pub CountAnswer : Type 0
CountAnswer = Answer ℕ

-- what was counted of a listing
abbrev pub Listing : Type 0
Listing = Answer PathCount

abbrev pub BoundsAnswer : Type 0
BoundsAnswer = Answer Enclosure

abbrev pub FiguresAnswer : Type 0
FiguresAnswer = Answer Figures

abbrev pub SurvivalAnswer : Type 0
SurvivalAnswer = Answer Chances

-- of a call that makes a study or changes one: the outcome beside the study
pub record StudyAnswer : Type 0 where
  pub outcome : Outcome
  pub study : Study

-- the same of a call that makes a study; where it is refused, this one stands in its place
abbrev pub study_answer : Study → Result Study Refusal → StudyAnswer
study_answer instead (Ok t) = record { outcome = finished; study = t }
study_answer instead (Err refusal) = record { outcome = Err (row_of refusal); study = instead }

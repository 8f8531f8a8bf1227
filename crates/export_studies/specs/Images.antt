-- A lent slice as the place where a study is kept: opening and the edits.
use Rattle.std.specs.Prelude.{ℕ, ◌≡◌, List, [], ◌∷◌, ℤ, length}
use Rattle.rules.specs.Breach.{first_breach}
use Rattle.rules.specs.Table.{room_fault}
use Rattle.study.specs.declared.Study.{Study}
use Rattle.answers.specs.Answered.{filled}
use Rattle.answers.specs.Told.{number_told, tells, outcome_told}
use Rattle.opening.specs.Opening.{opened}
use Rattle.editing.specs.Edits.{probabilities_set, customers_set, minutes_set}
use Rattle.study_image.specs.Places.{image_bytes}
use Rattle.study_image.specs.Image.{image_of, study_in}
use Rattle.export_answers.specs.Answers.{answered_by, done}
use Rattle.answers.specs.Answers.{StudyAnswer}

-- a call that keeps a study: what it answers, and what it leaves of a slice
pub record Keeps (breach : ℕ) (t : Study) (was slice : List ℕ) (answer : ℤ) : Type 0 where
  pub answered : answer ≡ answered_by done (tells breach [])
  -- the image in front, and the rest as it was; a breach leaves it all as it was
  pub written : slice ≡ filled breach (image_of t) was
  pub held : breach ≡ 0 → study_in slice ≡ t

-- ---- the study of an answer

-- the number by which it was refused, 0 for none
abbrev pub refusal_of : StudyAnswer → ℕ
refusal_of answer = number_told (outcome_told answer.outcome)

-- what refused it, then 18 where the slice is shorter than an image
unfoldable pub keep_fault : StudyAnswer → List ℕ → ℕ
keep_fault answer slice = first_breach (refusal_of answer ∷ room_fault image_bytes (length slice) ∷ [])

-- so it is kept
abbrev pub KeepsStudy : StudyAnswer → (was slice : List ℕ) → ℤ → Type 0
KeepsStudy answer was = Keeps (keep_fault answer was) answer.study was

-- of an edit: only what refused it, since a slice shorter than an image holds no sound study
abbrev pub KeepsEdited : StudyAnswer → (was slice : List ℕ) → ℤ → Type 0
KeepsEdited answer was = Keeps (refusal_of answer) answer.study was

-- ---- the calls

-- opening
abbrev pub Opens : (bytes was slice : List ℕ) → ℤ → Type 0
Opens bytes = KeepsStudy (opened bytes)

-- the edit of a component's probabilities
abbrev pub SetsProbabilities : (component p1 p2 p3 : ℕ) (was slice : List ℕ) → ℤ → Type 0
SetsProbabilities component p1 p2 p3 was = KeepsEdited (probabilities_set (study_in was) component p1 p2 p3) was

-- the edit of a load's customers
abbrev pub SetsCustomers : (load customers : ℕ) (was slice : List ℕ) → ℤ → Type 0
SetsCustomers load customers was = KeepsEdited (customers_set (study_in was) load customers) was

-- the edit of a load's minutes
abbrev pub SetsMinutes : (load minutes : ℕ) (was slice : List ℕ) → ℤ → Type 0
SetsMinutes load minutes was = KeepsEdited (minutes_set (study_in was) load minutes) was

-- What the call for a report answers, and what it leaves of what it was lent: a buffer for the text, and two slices
-- for the bounds of the study's classes, which are not looked at where the study does not open.
use Rattle.std.specs.Prelude.{ℕ, ◌≡◌, List, [], ◌∷◌, length}
use Rattle.rules.specs.Breach.{first_breach}
use Rattle.rules.specs.Table.{room_fault}
use Rattle.answers.specs.Answered.{answered, filled}
use Rattle.entries.specs.Entries.{class_places}
use Rattle.model.specs.Model.{Model}
use Rattle.opening.specs.Opening.{opened}
use Rattle.meaning.specs.Meaning.{by_gates, model_of}
use Rattle.evaluation.specs.Bounds.{class_lowers, class_uppers}
use Rattle.evaluation.specs.Rooms.{pair_fault, PairPut}
use Rattle.report_text.specs.Report.{model_text, report_text}
use Rattle.std.specs.Prelude.{Ok, Err}
use Rattle.answers.specs.Answers.{CountAnswer, Outcome}

-- 18 for a text, then 18 for two slices of which each needs so many places
abbrev pub room_breaches : List ℕ → ℕ → (text lower upper : List ℕ) → List ℕ
room_breaches report places text lower upper =
    room_fault (length report) (length text) ∷ pair_fault places (length lower) (length upper) ∷ []

-- what is answered and left with this text, these bounds and this breach
pub record ReportPut (report : List ℕ) (breach : ℕ) (lowers uppers : List ℕ)
    (text-was lower-was upper-was text lower upper : List ℕ) (answer : CountAnswer) : Type 0 where
  pub text_is : text ≡ filled breach report text-was
  pub bounds : PairPut Err breach (Ok (length report)) lowers uppers lower-was upper-was lower upper answer

-- ---- a model

-- its text, and a place for each class in both slices
abbrev pub model_breach : Model → (text lower upper : List ℕ) → ℕ
model_breach m text lower upper = first_breach (room_breaches (model_text m) class_places text lower upper)

abbrev pub ModelReported : Model → (text-was lower-was upper-was text lower upper : List ℕ) → CountAnswer → Type 0
ModelReported m text-was lower-was upper-was =
    ReportPut (model_text m) (model_breach m text-was lower-was upper-was) (class_lowers m) (class_uppers m)
    text-was lower-was upper-was

-- ---- bytes, by what opening answers

-- the places that are needed in each slice
abbrev pub places_by : Outcome → ℕ
places_by (Ok a) = class_places
places_by (Err n) = 0

-- the bounds that go there
abbrev pub bounds_by : Outcome → List ℕ → List ℕ
bounds_by (Ok a) bounds = bounds
bounds_by (Err n) bounds = []

abbrev pub report_breaches : List ℕ → (text lower upper : List ℕ) → List ℕ
report_breaches bytes = room_breaches (report_text bytes) (places_by (opened bytes).outcome)

unfoldable pub report_fault : List ℕ → (text lower upper : List ℕ) → ℕ
report_fault bytes text lower upper = first_breach (report_breaches bytes text lower upper)

-- the bounds of the study's classes, where it opens
abbrev pub report_lowers : List ℕ → List ℕ
report_lowers bytes = bounds_by (opened bytes).outcome (class_lowers (model_of by_gates (opened bytes).study))

abbrev pub report_uppers : List ℕ → List ℕ
report_uppers bytes = bounds_by (opened bytes).outcome (class_uppers (model_of by_gates (opened bytes).study))

-- the answer: the number of bytes of the text
unfoldable pub reported : List ℕ → (text lower upper : List ℕ) → CountAnswer
unfolding answered report_fault
reported bytes text lower upper =
    answered Err (report_fault bytes text lower upper) (Ok (length (report_text bytes)))

-- what the buffer and the two slices then hold
abbrev pub buffer_reported : List ℕ → (text lower upper : List ℕ) → List ℕ
buffer_reported bytes text lower upper = filled (report_fault bytes text lower upper) (report_text bytes) text

abbrev pub lower_reported : List ℕ → (text lower upper : List ℕ) → List ℕ
lower_reported bytes text lower upper = filled (report_fault bytes text lower upper) (report_lowers bytes) lower

abbrev pub upper_reported : List ℕ → (text lower upper : List ℕ) → List ℕ
upper_reported bytes text lower upper = filled (report_fault bytes text lower upper) (report_uppers bytes) upper

-- The three edits of a study: the first breach refuses, and hands the study back as it was; otherwise one field is anew and nothing else.
use Rattle.std.specs.Prelude.{ℕ, List, [], ◌∷◌, Result, Err}
use Rattle.rules.specs.declared.refusal.Refusal.{Refusal}
use Rattle.rules.specs.Breach.{first_breach}
use Rattle.rules.specs.Limits.{most_customers, most_minutes}
use Rattle.rules.specs.Table.{unsound_fault, item_fault, size_fault}
use Rattle.study.specs.declared.Study.{Study}
use Rattle.answers.specs.Answered.{answered}
use Rattle.study.specs.Edits.{with_probabilities, with_customers, with_minutes, with_component, with_load}
use Rattle.study.specs.Places.{component_at, load_at}
use Rattle.soundness.specs.Check.{sound, probabilities_fault}
use Rattle.answers.specs.Answers.{StudyAnswer, by_number, finished}

-- what an edit in place answers, beside the study that it leaves
abbrev pub edit_answer : Result (Unit {0}) Refusal → Study → StudyAnswer
edit_answer result new = record { outcome = by_number result; study = new }

-- a refused edit hands the study back as it was
abbrev pub refused_edit : Study → ℕ → StudyAnswer
refused_edit old n = record { outcome = Err n; study = old }

-- done with the new study, or refused with the old one
unfoldable pub edited : ℕ → Study → Study → StudyAnswer
unfolding answered
edited breach old new = answered (refused_edit old) breach (record { outcome = finished; study = new })

-- 16, then 17, then 5 for a probability above 0 of a state that the component lacks, then 6
abbrev pub component_edit_breaches : Study → ℕ → ℕ → ℕ → ℕ → List ℕ
component_edit_breaches t i p1 p2 p3 =
    unsound_fault (sound t) ∷ item_fault t.components i ∷ probabilities_fault (component_at t i).states p1 p2 p3 ∷ []

unfoldable pub component_edit_fault : Study → ℕ → ℕ → ℕ → ℕ → ℕ
component_edit_fault t i p1 p2 p3 = first_breach (component_edit_breaches t i p1 p2 p3)

-- the probabilities of states 1 to 3 of component i
unfoldable pub probabilities_set : Study → ℕ → ℕ → ℕ → ℕ → StudyAnswer
probabilities_set t i p1 p2 p3 =
    edited (component_edit_fault t i p1 p2 p3) t (with_component i (with_probabilities p1 p2 p3 (component_at t i)) t)

-- 16, then 17, then 14
abbrev pub load_edit_breaches : Study → ℕ → ℕ → ℕ → List ℕ
load_edit_breaches t j most n = unsound_fault (sound t) ∷ item_fault t.loads j ∷ size_fault most n ∷ []

unfoldable pub load_edit_fault : Study → ℕ → ℕ → ℕ → ℕ
load_edit_fault t j most n = first_breach (load_edit_breaches t j most n)

-- the customers of load j
unfoldable pub customers_set : Study → ℕ → ℕ → StudyAnswer
customers_set t j n = edited (load_edit_fault t j most_customers n) t (with_load j (with_customers n (load_at t j)) t)

-- the minutes of load j
unfoldable pub minutes_set : Study → ℕ → ℕ → StudyAnswer
minutes_set t j n = edited (load_edit_fault t j most_minutes n) t (with_load j (with_minutes n (load_at t j)) t)

-- What the calls for the bounds of paths and classes answer and write, by a study's gates or by a drawn tree, and by what they are refused.
use Rattle.std.specs.Prelude.{ℕ, List, [], ◌∷◌, length}
use Rattle.rules.specs.Breach.{first_breach}
use Rattle.rules.specs.Table.{unsound_fault}
use Rattle.study.specs.declared.Study.{Study}
use Rattle.answers.specs.Answered.{answered, filled}
use Rattle.entries.specs.Entries.{class_places}
use Rattle.model.specs.Model.{paths_of}
use Rattle.soundness.specs.Check.{sound}
use Rattle.meaning.specs.Meaning.{Meaning, meaning_fault, model_of}
use Rattle.evaluation.specs.Bounds.{path_lowers, path_uppers, class_lowers, class_uppers}
use Rattle.evaluation.specs.Rooms.{pair_fault}
use Rattle.std.specs.Prelude.{Ok, Err}
use Rattle.answers.specs.Answers.{CountAnswer, Outcome, finished}

-- ---- two slices of which each needs so many places

-- 16, then a breach of the meaning, then 18
abbrev pub pair_breaches : Meaning → Study → ℕ → ℕ → ℕ → List ℕ
pair_breaches m t need lower upper = unsound_fault (sound t) ∷ meaning_fault m t ∷ pair_fault need lower upper ∷ []

unfoldable pub pair_breach : Meaning → Study → ℕ → List ℕ → List ℕ → ℕ
unfolding pair_fault
pair_breach m t need lower upper = first_breach (pair_breaches m t need (length lower) (length upper))

-- ---- the calls for paths

abbrev pub paths_fault : Meaning → Study → List ℕ → List ℕ → ℕ
paths_fault m t lower upper = pair_breach m t (length (paths_of (model_of m t))) lower upper

-- what the two slices then hold
abbrev pub lower_of_paths : Meaning → Study → List ℕ → List ℕ → List ℕ
lower_of_paths m t lower upper = filled (paths_fault m t lower upper) (path_lowers (model_of m t)) lower

abbrev pub upper_of_paths : Meaning → Study → List ℕ → List ℕ → List ℕ
upper_of_paths m t lower upper = filled (paths_fault m t lower upper) (path_uppers (model_of m t)) upper

-- the answer: the number of paths
unfoldable pub paths_bounded : Meaning → Study → List ℕ → List ℕ → CountAnswer
unfolding answered pair_breach
paths_bounded m t lower upper = answered Err (paths_fault m t lower upper) (Ok (length (paths_of (model_of m t))))

-- ---- the calls for classes

abbrev pub classes_fault : Meaning → Study → List ℕ → List ℕ → ℕ
classes_fault m t lower upper = pair_breach m t class_places lower upper

-- what the two slices then hold
abbrev pub lower_of_classes : Meaning → Study → List ℕ → List ℕ → List ℕ
lower_of_classes m t lower upper = filled (classes_fault m t lower upper) (class_lowers (model_of m t)) lower

abbrev pub upper_of_classes : Meaning → Study → List ℕ → List ℕ → List ℕ
upper_of_classes m t lower upper = filled (classes_fault m t lower upper) (class_uppers (model_of m t)) upper

-- the answer: only that it is done
unfoldable pub classes_bounded : Meaning → Study → List ℕ → List ℕ → Outcome
unfolding answered pair_breach
classes_bounded m t lower upper = answered Err (classes_fault m t lower upper) finished

-- What the calls for the list of a study's paths answer and write, by its gates or by a drawn tree.
use Rattle.std.specs.Prelude.{ℕ, List, [], ◌∷◌, length}
use Rattle.lists.specs.Rows.{joined}
use Rattle.rules.specs.Breach.{first_breach}
use Rattle.rules.specs.Table.{unsound_fault, room_fault}
use Rattle.study.specs.declared.Study.{Study}
use Rattle.answers.specs.Answered.{answered, filled}
use Rattle.model.specs.Model.{paths_of}
use Rattle.soundness.specs.Check.{sound}
use Rattle.meaning.specs.Meaning.{Meaning, meaning_fault, model_of}
use Rattle.std.specs.Prelude.{Ok, Err}
use Rattle.answers.specs.Answers.{Listing}

-- the paths of a study under a meaning, an entry each
abbrev pub path_list : Meaning → Study → List (List ℕ)
path_list m t = paths_of (model_of m t)

-- 16, then a breach of the meaning, then 18 where the entries need more than the room that is lent
abbrev pub list_breaches : Meaning → Study → ℕ → List ℕ
list_breaches m t room = unsound_fault (sound t) ∷ meaning_fault m t ∷ room_fault (length (joined (path_list m t))) room ∷ []

unfoldable pub list_fault : Meaning → Study → ℕ → ℕ
list_fault m t room = first_breach (list_breaches m t room)

-- the number of paths
unfoldable pub paths_listed : Meaning → Study → List ℕ → Listing
unfolding answered
paths_listed m t buffer = answered Err (list_fault m t (length buffer)) (Ok (record { paths = length (path_list m t) }))

-- the entries
unfoldable pub buffer_listed : Meaning → Study → List ℕ → List ℕ
unfolding filled
buffer_listed m t buffer = filled (list_fault m t (length buffer)) (joined (path_list m t)) buffer

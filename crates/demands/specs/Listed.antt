-- A list that a call answered: how many paths, and which.
use Rattle.std.specs.Prelude.{ℕ, ◌≡◌, List, [], ◌∷◌, length, get_or}
use Rattle.study.specs.declared.Study.{Study}
use Rattle.study.specs.Joint.{state_counts}
use Rattle.answers.specs.Told.{result}
use Rattle.entries.specs.Entries.{entries_of}
use Rattle.meaning.specs.Meaning.{Meaning}
use Rattle.path_calls.specs.Listing.{buffer_listed}
use Rattle.demands.specs.Calls.{list_paths, call_told}

-- a call for the list of t under a meaning, with buffer d, was not refused, and told p paths
abbrev pub ListedBy : Meaning → Study → List ℕ → ℕ → Type 0
ListedBy m t d p = call_told (list_paths m d) t ≡ result (p ∷ [])

-- the paths that the buffer then holds: p entries at its front
abbrev pub paths_in : Meaning → Study → List ℕ → ℕ → List (List ℕ)
paths_in m t d p = entries_of (length (state_counts t)) p (buffer_listed m t d)

-- path i of them
abbrev pub path_in : Meaning → Study → List ℕ → ℕ → ℕ → List ℕ
path_in m t d p i = get_or (paths_in m t d p) i []

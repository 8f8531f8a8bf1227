-- What listing entries in a lent buffer answers and leaves: 18 where they need more than its room.
use Rattle.std.specs.Prelude.{ℕ, List, length}
use Rattle.lists.specs.Rows.{joined}
use Rattle.rules.specs.Table.{room_fault}
use Rattle.answers.specs.Answered.{answered, filled}
use Rattle.std.specs.Prelude.{Ok, Err}
use Rattle.answers.specs.Answers.{Listing}

abbrev pub lent_fault : List (List ℕ) → List ℕ → ℕ
lent_fault entries buffer = room_fault (length (joined entries)) (length buffer)

-- the number of entries
abbrev pub listed_in : List (List ℕ) → List ℕ → Listing
listed_in entries buffer = answered Err (lent_fault entries buffer) (Ok (record { paths = length entries }))

-- the entries at the front
abbrev pub buffer_in : List (List ℕ) → List ℕ → List ℕ
buffer_in entries buffer = filled (lent_fault entries buffer) (joined entries) buffer

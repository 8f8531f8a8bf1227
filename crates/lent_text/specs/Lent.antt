-- A text in a lent buffer: what a call that writes it answers, and what it leaves of the buffer.
use Rattle.std.specs.Prelude.{ℕ, List, [], ◌∷◌, length}
use Rattle.rules.specs.Breach.{first_breach}
use Rattle.rules.specs.Table.{room_fault}
use Rattle.answers.specs.Answered.{answered, filled}
use Rattle.std.specs.Prelude.{Ok, Err}
use Rattle.answers.specs.Answers.{CountAnswer}

-- 18 where the buffer is too short for the text
unfoldable pub text_fault : List ℕ → List ℕ → ℕ
text_fault text buffer = first_breach (room_fault (length text) (length buffer) ∷ [])

-- the answer: the number of bytes
unfoldable pub reported : List ℕ → List ℕ → CountAnswer
unfolding answered text_fault
reported text buffer = answered Err (text_fault text buffer) (Ok (length text))

-- the text fills the buffer's front, and nothing behind it changes; a buffer that is too short stays as it was
unfoldable pub written : List ℕ → List ℕ → List ℕ
unfolding filled text_fault
written text buffer = filled (text_fault text buffer) text buffer

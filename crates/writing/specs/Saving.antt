-- What the call that writes a study out answers and writes.
use Rattle.std.specs.Prelude.{ℕ, List, [], ◌∷◌, length}
use Rattle.rules.specs.Breach.{first_breach}
use Rattle.rules.specs.Table.{unsound_fault, room_fault}
use Rattle.study.specs.declared.Study.{Study}
use Rattle.answers.specs.Answered.{answered, filled}
use Rattle.soundness.specs.Check.{sound}
use Rattle.study_bytes.specs.Written.{study_bytes}
use Rattle.std.specs.Prelude.{Ok, Err}
use Rattle.answers.specs.Answers.{CountAnswer}

-- 16, then 18 where the study's bytes need more than the room that is lent
abbrev pub write_breaches : Study → ℕ → List ℕ
write_breaches t room = unsound_fault (sound t) ∷ room_fault (length (study_bytes t)) room ∷ []

unfoldable pub write_fault : Study → ℕ → ℕ
write_fault t room = first_breach (write_breaches t room)

-- the number of bytes
unfoldable pub study_written : Study → List ℕ → CountAnswer
unfolding answered
study_written t buffer = answered Err (write_fault t (length buffer)) (Ok (length (study_bytes t)))

-- the bytes
unfoldable pub buffer_written : Study → List ℕ → List ℕ
unfolding filled
buffer_written t buffer = filled (write_fault t (length buffer)) (study_bytes t) buffer

-- The call that writes out the study that an image holds.
use Rattle.std.specs.Prelude.{ℕ, ◌≡◌, List, ℤ}
use Rattle.answers.specs.Told.{count_told}
use Rattle.writing.specs.Saving.{study_written, buffer_written}
use Rattle.study_image.specs.Image.{study_in}
use Rattle.export_answers.specs.Answers.{answered_by, count}

-- what it answers, and what it leaves of the buffer that is lent for the bytes
pub record Saves (study was bytes : List ℕ) (answer : ℤ) : Type 0 where
  pub answered : answer ≡ answered_by count (count_told (study_written (study_in study) was))
  pub written : bytes ≡ buffer_written (study_in study) was

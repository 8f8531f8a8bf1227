-- The calls for a text in a lent buffer.
use Rattle.std.specs.Prelude.{ℕ, ◌≡◌, List, ℤ}
use Rattle.answers.specs.Told.{count_told}
use Rattle.lent_text.specs.Lent.{reported as text_reported, written}
use Rattle.words.specs.Words.{refusal_word}
use Rattle.report_text.specs.Lent.{reported, buffer_reported, lower_reported, upper_reported}
use Rattle.export_answers.specs.Answers.{answered_by, count}

-- the call for the report of a study's bytes: what it answers, and what it leaves of the buffer and the two slices
pub record Reports (bytes text-was lower-was upper-was text lower upper : List ℕ) (answer : ℤ) : Type 0 where
  pub answered : answer ≡ answered_by count (count_told (reported bytes text-was lower-was upper-was))
  pub text_left : text ≡ buffer_reported bytes text-was lower-was upper-was
  pub lower_left : lower ≡ lower_reported bytes text-was lower-was upper-was
  pub upper_left : upper ≡ upper_reported bytes text-was lower-was upper-was

-- the call for the word of a refusal
pub record Words (number : ℕ) (was buffer : List ℕ) (answer : ℤ) : Type 0 where
  pub answered : answer ≡ answered_by count (count_told (text_reported (refusal_word number) was))
  pub left : buffer ≡ written (refusal_word number) was

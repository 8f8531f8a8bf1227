-- A call for a text that passes on to another: what that one answered and left is answered and left.
use Prim.Native.Nat.{ℕ, ◌<◌, ◌^◌}
use mathlib.Core.Path.{◌≡◌, ◌∙◌}
use mathlib.Core.List.{List}
use lib.IntN.{ℤ}
use lib.Signed.{mag}
use mir.Syntax.{w64}
use mir.Val.{hbits, to_z, of_z}
use Rattle.answers.specs.Told.{count_told}
use Rattle.lent_text.specs.Lent.{reported as text_reported, written}
use Rattle.words.specs.Words.{refusal_word}
use Rattle.report_text.specs.Lent.{reported, buffer_reported, lower_reported, upper_reported}
use Rattle.export_answers.specs.Answers.{answered_by, count}
use Rattle.export_answers.proofs.Signed.{handed}
use Rattle.export_texts.specs.Texts.{Reports, Words}
use Rattle.answers.specs.Answers.{CountAnswer}

module _ {a : CountAnswer} {r : ℤ} (fits : mag r < 2 ^ hbits w64) (is : r ≡ answered_by count (count_told a)) where
  pub word-written : (number : ℕ) {was buffer : List ℕ} → (a ≡ text_reported (refusal_word number) was) × (buffer ≡ written (refusal_word number) was)
      → Words number was buffer (to_z w64 (of_z w64 r))
  word-written number made = record { answered = handed _ fits ∙ (rw made.0 at is); left = made.1 }

  pub report-written : (bytes text-was lower-was upper-was : List ℕ) {text lower upper : List ℕ} → (a ≡ reported bytes text-was lower-was upper-was)
      × ((text ≡ buffer_reported bytes text-was lower-was upper-was)
      × ((lower ≡ lower_reported bytes text-was lower-was upper-was) × (upper ≡ upper_reported bytes text-was lower-was upper-was)))
      → Reports bytes text-was lower-was upper-was text lower upper (to_z w64 (of_z w64 r))
  report-written bytes text-was lower-was upper-was made =
      record { answered = handed _ fits ∙ (rw made.0 at is); text_left = made.1.0; lower_left = made.1.1.0; upper_left = made.1.1.1 }

-- What a text handed over answers and leaves in the lent buffer: the room alone decides.
use Rattle.std.proofs.Common.{◌≡◌, List, [], ◌∷◌, ℕ, length, refl}
use Rattle.rules.specs.Table.{room_fault}
use Rattle.rules.proofs.Kept.{list-last}
use Rattle.answers.specs.Answered.{answered, filled}
use Rattle.answers.specs.Answers.{CountAnswer}
use Rattle.answers.specs.Told.{tells, count_told}
use Rattle.answers.proofs.Answered.{answered-tells}
use Rattle.answers.proofs.ByNumber.{by_number}
use Rattle.lent_text.specs.Lent.{text_fault, reported, written}
use Rattle.std.specs.Prelude.{Ok, Err}

module _ (text buffer : List ℕ) where
  pub reported-is : reported text buffer ≡ answered {A = CountAnswer} Err (room_fault (length text) (length buffer)) (Ok (length text))
  unfolding reported text_fault
  reported-is = rw list-last refl

  pub written-is : written text buffer ≡ filled (room_fault (length text) (length buffer)) text buffer
  unfolding written text_fault
  written-is = rw list-last refl

  -- the number of bytes is told, or the breach
  pub reported-tells : count_told (reported text buffer) ≡ tells (text_fault text buffer) (length text ∷ [])
  unfolding reported
  reported-tells = answered-tells Err (text_fault text buffer) (Ok (length text)) count_told (length text ∷ []) (λ n. refl) refl

pub ruleset handing = (reported-is, written-is, by_number)

-- The calls for the figures of the study that an image holds, by its gates or by a drawn tree, each in two numbers.
use Rattle.std.specs.Prelude.{ℕ, ◌≡◌, List, ℤ}
use Rattle.units.specs.declared.bounds.Enclosure.{Enclosure}
use Rattle.answers.specs.Told.{pair_values, caidi_values, figures_told_of, figures_told}
use Rattle.meaning.specs.Meaning.{Meaning}
use Rattle.loss_calls.specs.Figures.{figures_given}
use Rattle.study_image.specs.Image.{study_in}
use Rattle.export_answers.specs.Answers.{answered_by, pairs, left_by}
use Rattle.answers.specs.Answers.{FiguresAnswer}

-- an answer in the numbers: how many figures are stated, and what is left in the two of each; CAIDI has no values
-- where it is not stated
pub record TakesFigures (given : FiguresAnswer)
    (saifi-was saidi-was caidi-was maifi-was saifi saidi caidi maifi : Enclosure) (answer : ℤ) : Type 0 where
  pub answered : answer ≡ answered_by pairs (figures_told given)
  pub saifi_left : saifi ≡ left_by (figures_told_of (λ f. pair_values f.saifi) given) saifi-was
  pub saidi_left : saidi ≡ left_by (figures_told_of (λ f. pair_values f.saidi) given) saidi-was
  pub caidi_left : caidi ≡ left_by (figures_told_of (λ f. caidi_values f.caidi) given) caidi-was
  pub maifi_left : maifi ≡ left_by (figures_told_of (λ f. pair_values f.maifi) given) maifi-was

-- the calls
abbrev pub GivesFigures : (m : Meaning) (study : List ℕ)
    (saifi-was saidi-was caidi-was maifi-was saifi saidi caidi maifi : Enclosure) → ℤ → Type 0
GivesFigures m study = TakesFigures (figures_given m (study_in study))

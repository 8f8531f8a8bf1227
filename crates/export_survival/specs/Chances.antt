-- The call for the chances of surviving and of failure, each in two numbers.
use Rattle.std.specs.Prelude.{ℕ, ◌≡◌, ℤ}
use Rattle.units.specs.declared.bounds.Enclosure.{Enclosure}
use Rattle.answers.specs.Told.{pair_values, survival_told_of, survival_told}
use Rattle.survival.specs.Chances.{survival_given}
use Rattle.export_answers.specs.Answers.{answered_by, done, left_by}
use Rattle.answers.specs.Answers.{SurvivalAnswer}

-- an answer in the numbers: 0 or the refusal, and what is left in the two of each chance
pub record TakesChances (given : SurvivalAnswer) (survival-was failure-was survival failure : Enclosure) (answer : ℤ) :
    Type 0 where
  pub answered : answer ≡ answered_by done (survival_told given)
  pub survival_left : survival ≡ left_by (survival_told_of (λ c. pair_values c.survival) given) survival-was
  pub failure_left : failure ≡ left_by (survival_told_of (λ c. pair_values c.failure) given) failure-was

-- the call
abbrev pub GivesChances : (fit hours : ℕ) (survival-was failure-was survival failure : Enclosure) → ℤ → Type 0
GivesChances fit hours = TakesChances (survival_given fit hours)

-- What the call for the chances promises of its answer, whichever pair is given: the papers leave that to the program.
use Rattle.std.specs.Prelude.{ℕ, ◌+◌, ◌≡◌}
use Rattle.units.specs.One.{one}
use Rattle.answers.specs.declared.chances.Chances.{Chances}
use Rattle.exponential.specs.Survives.{Survives}
use Rattle.survival.specs.Chances.{exponent_of, survival_given}
use Rattle.std.specs.Prelude.{Ok}
use Rattle.answers.specs.Answers.{SurvivalAnswer}

-- Four bounds at an exponent: two that promise what document 02 asks of the chance of surviving, and for the chance
-- of failure one less each, swapped.
pub record FourBounds (exponent : ℕ) (c : Chances) : Type 0 where
  pub survival : Survives exponent c.survival.lower c.survival.upper
  pub failure_lower : c.failure.lower + c.survival.upper ≡ one
  pub failure_upper : c.failure.upper + c.survival.lower ≡ one

-- Chances that are answered are such.
abbrev pub SurvivalPromises : Type 0
SurvivalPromises =
    (fit hours : ℕ) (c : Chances) → survival_given fit hours ≡ Ok c → FourBounds (exponent_of fit hours) c

-- what the call answers: the pair that is worked out, and wherever it is no refusal, four such bounds
pub record Answers (fit hours : ℕ) (answer : SurvivalAnswer) : Type 0 where
  pub given : answer ≡ survival_given fit hours
  pub promise : (c : Chances) → answer ≡ Ok c → FourBounds (exponent_of fit hours) c

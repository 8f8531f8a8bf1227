-- The chances of surviving and of failure from a failure rate and hours: what the call answers, and by what it is refused.
use Rattle.std.specs.Prelude.{ℕ, ◌-◌, ◌*◌, List, [], ◌∷◌}
use Rattle.units.specs.One.{one}
use Rattle.rules.specs.Breach.{first_breach}
use Rattle.rules.specs.Table.{far_fault}
use Rattle.answers.specs.Answered.{answered}
use Rattle.answers.specs.declared.chances.Chances.{Chances}
use Rattle.units.specs.declared.bounds.Enclosure.{Enclosure}
use Rattle.exponential.specs.Worked.{survival_of}
use Rattle.std.specs.Prelude.{Ok, Err}
use Rattle.answers.specs.Answers.{SurvivalAnswer}

-- the exponent, in units: a FIT is one failure in a thousand million hours, and one is a thousand million units
abbrev pub exponent_of : ℕ → ℕ → ℕ
exponent_of fit hours = fit * hours

-- 23 is the only check
abbrev pub survival_breaches : ℕ → ℕ → List ℕ
survival_breaches fit hours = far_fault (exponent_of fit hours) ∷ []

unfoldable pub survival_fault : ℕ → ℕ → ℕ
survival_fault fit hours = first_breach (survival_breaches fit hours)

-- the chance of surviving within two bounds, and that of failure: one less each, swapped
abbrev pub chances_by : Enclosure → Chances
chances_by surviving =
    record {
      survival = record { lower = surviving.lower; upper = surviving.upper };
      failure = record { lower = one - surviving.upper; upper = one - surviving.lower };
    }

-- by the exponential of minus the exponent
abbrev pub chances_of : ℕ → Chances
chances_of exponent = chances_by (survival_of exponent)

-- the answer
unfoldable pub survival_given : ℕ → ℕ → SurvivalAnswer
unfolding answered survival_fault
survival_given fit hours = answered Err (survival_fault fit hours) (Ok (chances_of (exponent_of fit hours)))

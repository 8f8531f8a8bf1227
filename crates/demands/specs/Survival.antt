-- The chance of surviving from a failure rate in FIT and hours: which of them are refused, and what the four bounds
-- of an answer promise.
use Rattle.std.specs.Prelude.{ℕ, ◌*◌, ◌<◌, ◌≤◌, ◌≡◌, []}
use Rattle.rules.specs.Limits.{farthest}
use Rattle.answers.specs.Told.{result, refusal, chance_values, survival_told}
use Rattle.answers.specs.declared.chances.Chances.{Chances}
use Rattle.survival.specs.Chances.{survival_breaches, chances_of, survival_given}
use Rattle.survival.specs.Promise.{FourBounds}
use Rattle.demands.specs.Demand1.{Refuses}

-- The call tells 23 where FIT times hours is above 20,000,000,000, and in every other case the chances; nothing is
-- lent.
pub record SurvivalRefuses : Type 0 where
  pub refuses : (fit hours : ℕ)
      → Refuses (survival_told (survival_given fit hours)) (survival_breaches fit hours) (chance_values (chances_of (fit * hours))) []
  pub too_far : (fit hours : ℕ) → farthest < fit * hours → survival_told (survival_given fit hours) ≡ refusal 23
  pub given : (fit hours : ℕ) → fit * hours ≤ farthest
      → survival_told (survival_given fit hours) ≡ result (chance_values (chances_of (fit * hours)))

-- The four bounds that the call tells promise what document 02 asks of them.
abbrev pub SurvivalEncloses : Type 0
SurvivalEncloses =
    (fit hours : ℕ) (c : Chances) → survival_told (survival_given fit hours) ≡ result (chance_values c)
    → FourBounds (fit * hours) c

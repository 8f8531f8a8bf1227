-- What holds of the pair that is worked out.
use Rattle.std.specs.Prelude.{ℕ, ◌<◌}
use Rattle.exponential.specs.Survives.{Survives}
use Rattle.exponential.specs.Worked.{reach, survival_of}

-- It keeps the promise, for every exponent that the table reaches.
abbrev pub WorkedSurvives : Type 0
WorkedSurvives = (x : ℕ) → x < reach → Survives x (survival_of x).lower (survival_of x).upper

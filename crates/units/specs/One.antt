-- The scale of every probability: whole billionths.
use Rattle.std.specs.Prelude.{ℕ}

-- document 01's "one": certainty, in units of a billionth
abbrev pub one : ℕ
one = 1000000000

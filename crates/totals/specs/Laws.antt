-- The walk adds what the entries of the list would.
use Rattle.std.specs.Prelude.{ℕ, ◌≡◌, Bool, List}
use Rattle.units.specs.One.{one}
use Rattle.totals.specs.Walk.{brings, brings_all}

-- Begun at component 0 with a bound of one, the walk brings to each place what the bounds of the list's entries sum to
-- there.
abbrev pub WalkAddsUp : Type 0
WalkAddsUp =
    (loadwise : Bool) (rounding : ℕ) (probabilities counts block : List ℕ) (place : ℕ)
    → brings loadwise rounding probabilities 0 counts block one place
    ≡ brings_all loadwise rounding probabilities counts block place

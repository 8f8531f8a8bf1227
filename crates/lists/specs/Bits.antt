-- The bits of a number.
use Rattle.std.specs.Prelude.{ℕ, ◌/◌, ◌%◌, ◌^◌, Bool, eqb}

-- bit k of m, as 0 or 1
abbrev pub digit : ℕ → ℕ → ℕ
digit m k = m / 2 ^ k % 2

-- bit k of m stands
abbrev pub bit : ℕ → ℕ → Bool
bit m k = eqb (digit m k) 1

-- Numbers as they are printed.
use Rattle.std.specs.Prelude.{ℕ, zero, suc, ◌+◌, ◌/◌, ◌%◌, Bool, true, false, List, [], ◌∷◌, ◌++◌, ltb}

-- the byte of a digit
abbrev pub digit : ℕ → ℕ
digit n = 48 + n

-- a number of one digit, or the last digit behind what stands before it
abbrev pub spelt : Bool → (ℕ → List ℕ) → ℕ → List ℕ
spelt true front n = digit n ∷ []
spelt false front n = front (n / 10) ++ (digit (n % 10) ∷ [])

-- the digits of a number of at most so many further digits
unfoldable pub decimal_within : ℕ → ℕ → List ℕ
decimal_within zero n = digit n ∷ []
decimal_within (suc more) n = spelt (ltb n 10) (decimal_within more) n

-- a number in decimal, without leading zeros
unfoldable pub decimal : ℕ → List ℕ
unfolding decimal_within
decimal n = decimal_within n n

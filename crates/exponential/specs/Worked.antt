-- The two bounds that are worked out, of all pairs that keep the promise. An exponent is a sum of powers of two, and its exponential the product of
-- theirs: a table has a factor for each power from the grain on, and an exponent below the grain is bounded by a straight line.
use Rattle.std.specs.Prelude.{ℕ, ◌+◌, ◌-◌, ◌*◌, ◌/◌, ◌%◌, ◌^◌, ◌≤◌, min, cond, List, [], ◌∷◌, eqb}
use Rattle.units.specs.One.{one}
use Rattle.units.specs.Rounding.{down, up, scale}
use Rattle.units.specs.declared.bounds.Enclosure.{Enclosure}

-- 2 ^ 14: the square of a smaller exponent is less than one, so that the line is right to a unit
abbrev pub grain : ℕ
grain = 16384

-- the exponentials of minus 2 ^ 14, 2 ^ 15, .. , 2 ^ 34 units, in units and rounded down
unfoldable pub factors : List ℕ
factors =
    999983616 ∷ 999967232 ∷ 999934466 ∷ 999868936 ∷ 999737890 ∷ 999475849 ∷ 998951973 ∷ 997905045 ∷ 995814479 ∷ 991646478 ∷ 983362737
    ∷ 967002273 ∷ 935093397 ∷ 874399662 ∷ 764574769 ∷ 584574578 ∷ 341727438 ∷ 116777642 ∷ 13637017 ∷ 185968 ∷ 34 ∷ []

-- how many there are
abbrev pub powers : ℕ
powers = 21

-- the exponents that they make up are those below it
abbrev pub reach : ℕ
reach = grain * 2 ^ powers

-- two bounds that are probabilities, as far as one goes
pub record Units (b : Enclosure) : Type 0 where
  pub lower : b.lower ≤ one
  pub upper : b.upper ≤ one

-- a unit more, and at most one
unfoldable pub raised : ℕ → ℕ
raised bound = min one (bound + 1)

-- below the grain: one less the exponent, and a unit more
unfoldable pub line : ℕ → Enclosure
line x = record { lower = one - x; upper = raised (one - x) }

-- times the factor of a bit, which was rounded down, where the bit stands: the lower bound by the factor and rounded down, the upper one by a unit more and
-- rounded up
unfoldable pub times : ℕ → ℕ → Enclosure → Enclosure
times bit factor b = cond (eqb bit 0) b (record { lower = scale down b.lower factor; upper = scale up b.upper (factor + 1) })

-- the same for every bit, from the lowest on
unfoldable pub times_each : ℕ → List ℕ → Enclosure → Enclosure
times_each bits [] b = b
times_each bits (factor ∷ rest) b = times_each (bits / 2) rest (times (bits % 2) factor b)

-- the pair of an exponent: the upper bound is raised once more, so that some partial sum shows it
unfoldable pub survival_of : ℕ → Enclosure
survival_of x =
    let b = times_each (x / grain) factors (line (x % grain)) in
    record { lower = b.lower; upper = raised b.upper }

-- The factors from a place on: one turn of the work takes the first of them, and behind the last there is nothing to do.
use Prim.Native.Nat.{ℕ, ◌+◌, ◌/◌, ◌%◌, ◌<◌, ◌≤◌}
use mathlib.Core.Path.{◌≡◌, refl}
use native.Mathlib.Numerals.{add-one}
use lib.ListN.{get_or, drop}
use lib.Seq.{drop-cons}
use Rattle.units.specs.declared.bounds.Enclosure.{Enclosure}
use Rattle.exponential.specs.Worked.{Units, grain, powers, factors, line, times, times_each}

-- before the turn of a place: going on from here gives the product of all factors, and no bound is above one
pub record Going (exponent bits place : ℕ) (b : Enclosure) : Type 0 where
  pub within : place ≤ powers
  pub gives : times_each bits (drop place factors) b ≡ times_each (exponent / grain) factors (line (exponent % grain))
  pub units : Units b

module _ (bits : ℕ) (b : Enclosure) where
  pub turn : (place : ℕ) → place < powers
      → times_each bits (drop place factors) b ≡ times_each (bits / 2) (drop (place + 1) factors) (times (bits % 2) (get_or factors place 0) b)
  unfolding times_each factors
  turn place less = rw (add-one place, drop-cons factors place 0 less) refl

  pub all_done : times_each bits (drop powers factors) b ≡ b
  unfolding times_each factors
  all_done = refl

-- A row of so many zeros is cleared.
use Prim.Native.Nat.{ℕ}
use mathlib.Core.Path.{refl, sym}
use lib.ListN.{replicate, length-replicate}
use Rattle.lists.specs.Cleared.{cleared, Cleared}

pub is-cleared : (places : ℕ) → Cleared places (replicate places 0)
unfolding cleared
is-cleared places = record { zeros = refl; long = sym (length-replicate {A = ℕ} places 0) }

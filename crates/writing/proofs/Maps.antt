-- The map of a record, from the bits of its fields as the code has judged them.
use Prim.Native.Nat.{ℕ, ◌+◌, ◌*◌}
use mathlib.Core.Path.{◌≡◌, refl}
use mathlib.Core.Bool.{Bool, false}
use mathlib.Core.List.{List, [], ◌∷◌}
use native.Mathlib.Omega.{arith}
use Rattle.lists.specs.Counting.{truth}
use Rattle.lists.proofs.Sums.{truth-most}
use Rattle.study_bytes.specs.Written.{map_of}
use Rattle.study_bytes.proofs.Fields.{Bit}

module _ {x y z : List ℕ} {a b c : Bool} (first : Bit x a) (second : Bit y b) (third : Bit z c) where
  pub map-of-three : truth a + 2 * (truth b + 2 * (truth c + 2 * truth false)) ≡ map_of (x ∷ y ∷ z ∷ [])
  unfolding map_of
  map-of-three = rw (first.stands, second.stands, third.stands) refl

  pub map-of-four : {w : List ℕ} {d : Bool} → Bit w d → truth a + 2 * (truth b + 2 * (truth c + 2 * truth d)) ≡ map_of (x ∷ y ∷ z ∷ w ∷ [])
  unfolding map_of
  map-of-four fourth = omega (arith, first.stands, second.stands, third.stands, fourth.stands)

-- each bit is at most 1
pub ruleset bits = (truth-most)

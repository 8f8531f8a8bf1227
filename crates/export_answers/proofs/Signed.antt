-- Answers as 64-bit numbers with a sign: a number handed on is kept.
use Rattle.std.proofs.Common.{◌≡◌, ◌<◌, ◌^◌, ℤ, of_z, to_z, w64, subst, sym}
use Rattle.std.proofs.lemmas.Int.{to_z-of_z}
use lib.Signed.{mag}
use mir.Val.{hbits}

-- the number is kept
pub handed : (r : ℤ) → mag r < 2 ^ hbits w64 → to_z w64 (of_z w64 r) ≡ r
handed r fits = to_z-of_z w64 r (record { sfits = fits })

-- all that holds of the number still holds
pub handed-on : (P : ℤ → Type 0) {r : ℤ} → mag r < 2 ^ hbits w64 → P r → P (to_z w64 (of_z w64 r))
handed-on P {r} fits kept = subst P (sym (handed r fits)) kept

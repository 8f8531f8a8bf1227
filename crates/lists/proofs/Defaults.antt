-- What stands past the end of a list does not matter inside it.
use Prim.Native.Nat.{ℕ, zero, suc, ◌<◌}
use mathlib.Core.Path.{◌≡◌, refl}
use mathlib.Core.List.{List, [], ◌∷◌}
use native.Mathlib.Nat.{not-suc-le-zero, le_of_suc-le-suc}
use lib.ListN.{length, get_or}

pub get_or-inside : {A : Type 0} (l : List A) (k : ℕ) (a b : A) → k < length l → get_or l k a ≡ get_or l k b
get_or-inside [] k a b h = absurd (not-suc-le-zero h)
get_or-inside (x ∷ l) zero a b h = refl
get_or-inside (x ∷ l) (suc k) a b h = get_or-inside l k a b (le_of_suc-le-suc h)

-- A field that is written anew makes its record longer by no more than its own bytes, whatever stood there before.
use Prim.Native.Nat.{ℕ, zero, suc, ◌+◌, ◌≤◌}
use mathlib.Core.List.{List, [], ◌∷◌}
use native.Mathlib.Omega.{arith}
use lib.ListN.{length, set, length-append}
use Rattle.lists.specs.Rows.{joined}
use Rattle.study_bytes.specs.Written.{field, record_bytes}
use Rattle.study_bytes.proofs.Fields.{field-most}

joined-anew : (xs : List (List ℕ)) (k : ℕ) (y : List ℕ) → length (joined (set xs k y)) ≤ length (joined xs) + length y
unfolding joined
joined-anew [] k y = omega arith
joined-anew (x ∷ xs) zero y = omega (arith, length-append x (joined xs), length-append y (joined xs))
joined-anew (x ∷ xs) (suc k) y = omega (arith, length-append x (joined xs), length-append x (joined (set xs k y)), joined-anew xs k y)

pub field-anew : (xs : List (List ℕ)) (k absent value : ℕ) (x : List ℕ)
    → length (record_bytes (set xs k (field absent value x))) ≤ length (record_bytes xs) + length x
unfolding record_bytes
field-anew xs k absent value x = omega (arith, joined-anew xs k (field absent value x), field-most absent value x)

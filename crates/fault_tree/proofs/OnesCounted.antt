-- The count of ones of a class is the number of its loads' bits that stand.
use Prim.Native.Nat.{ℕ, zero, suc, ◌+◌, ◌/◌, ◌^◌, ◌<◌}
use mathlib.Core.Path.{◌≡◌, refl, sym, ap, ◌∙◌}
use native.Mathlib.Nat.{add-zero, zero-add, div-one, pow-suc, div-eq_of_lt, div-div-eq-div-mul}
use native.Mathlib.Omega.{arith}
use lib.Count.{ones, ones_in, ones_step}
use Rattle.lists.specs.Bits.{digit}
use Rattle.lists.specs.Counting.{sum}
use Rattle.rules.specs.Limits.{most_loads}
use Rattle.fault_tree.specs.Classes.{loads_lost}

-- the ones of the lowest k bits, and of what stands above them
split : (n k : ℕ) → ones n ≡ sum (digit n) k + ones (n / 2 ^ k)
unfolding sum
split n zero = rw (div-one, zero-add) refl
split n (suc k) =
    let next : ones (n / 2 ^ k) ≡ digit n k + ones (n / 2 ^ suc k) = rw (pow-suc, sym (div-div-eq-div-mul n (2 ^ k) 2)) (ones_step (n / 2 ^ k)) in
    omega (arith, split n k, next)

pub ones_lost : (class : ℕ) → class < 2 ^ most_loads → ones class ≡ loads_lost class
unfolding loads_lost ones ones_in
ones_lost class h =
    let none : class / 2 ^ most_loads ≡ 0 = div-eq_of_lt h in
    split class most_loads ∙ ap (λ (n : ℕ). loads_lost class + ones n) none ∙ add-zero (loads_lost class)

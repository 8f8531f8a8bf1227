-- Components of a study take at most 84 bytes, six times those of a component of four states. What carries it: a component of s states takes at most
-- 4 s - 2 bytes, 2 ^ (4 s - 2) is at most s ^ 7, and the product of all state counts is at most 4,096, whose seventh power is 2 ^ 84.
use Prim.Native.Nat.{ℕ, zero, suc, ◌+◌, ◌-◌, ◌*◌, ◌^◌, ◌≤◌}
use mathlib.Core.Path.{◌≡◌}
use native.Mathlib.Nat.{le_trans, lt_of_not-le, not-le_of_lt, le_of_suc-le-suc, mul_assoc, mul-mul-mul_comm, mul-le-mul_left, mul-le-mul_right}
use native.Mathlib.Nat.{pow-zero, pow-suc, pow-le-pow_left}
use native.Mathlib.Omega.{arith}
use lib.Dec.{lit≤}
use lib.Pow.{pow-add, pow-lt, pow_mono}
use Rattle.rules.specs.Limits.{most_joint_states, fewest_states, most_states}
use Rattle.rules.proofs.Kept.{Within}

mul-pow : (a b n : ℕ) → (a * b) ^ n ≡ a ^ n * b ^ n
mul-pow a b zero = simp pow-zero
mul-pow a b (suc n) = rw (pow-suc, pow-suc, pow-suc, mul-pow a b n) (mul-mul-mul_comm (a ^ n) (b ^ n) a b)

-- the bytes of a component against its state count
states-weigh : (s : ℕ) → Within fewest_states most_states s → 2 ^ (4 * s - 2) ≤ s ^ 7
states-weigh zero w = absurd (omega arith)
states-weigh (suc zero) w = absurd (omega arith)
states-weigh (suc (suc zero)) w = lit≤ tt
states-weigh (suc (suc (suc zero))) w = lit≤ tt
states-weigh (suc (suc (suc (suc zero)))) w = lit≤ tt
states-weigh (suc (suc (suc (suc (suc s))))) w = absurd (omega arith)

-- of n bytes some components, with so many joint states, took all but those left
pub record Weighs (n joint left : ℕ) : Type 0 where
  weighs : 2 ^ n ≤ joint ^ 7 * 2 ^ left

-- no component took nothing
pub weighs-none : (n : ℕ) → Weighs n 1 n
weighs-none n = record { weighs = omega arith }

-- one more component, of s states
pub weighs-more : {n joint left : ℕ} (s rest : ℕ) → Weighs n joint left → Within fewest_states most_states s → left ≤ 4 * s - 2 + rest
    → Weighs n (joint * s) rest
weighs-more {n} {joint} {left} s rest w within taken =
    let one : 2 ^ left ≤ s ^ 7 * 2 ^ rest = le_trans (pow_mono taken) (rw pow-add (mul-le-mul_right (2 ^ rest) (states-weigh s within))) in
    record { weighs = rw (mul-pow joint s 7, mul_assoc) (le_trans w.weighs (mul-le-mul_left (joint ^ 7) one)) }

-- components with no more joint states than a study may have
pub weighs-few : {n joint left : ℕ} → Weighs n joint left → joint ≤ most_joint_states → n ≤ 84 + left
weighs-few {n} {joint} {left} w few =
    let all : 2 ^ n ≤ 2 ^ (84 + left) = rw pow-add (le_trans w.weighs (mul-le-mul_right (2 ^ left) (pow-le-pow_left few 7))) in
    le_of_suc-le-suc (lt_of_not-le (λ over. not-le_of_lt (pow-lt over) all))

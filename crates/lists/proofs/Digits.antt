-- What the bits of a number tell of it, and the bits of a number that truth values make.
use Prim.Native.Nat.{ℕ, zero, suc, ◌+◌, ◌-◌, ◌*◌, ◌/◌, ◌%◌, ◌^◌, ◌<◌, ◌≤◌}
use mathlib.Core.Path.{◌≡◌, refl, sym, ap, ◌∙◌}
use mathlib.Core.Bool.{Bool, true, false}
use mathlib.Core.Logic.{⊎_elim}
use native.Mathlib.Nat.{not-suc-le-zero, le_of_suc-le-suc, eq-or-lt_of_le, lt_of_lt_of_le, add_comm, pow-suc, mod-lt, div-one, zero-div, div-eq_of_lt}
use native.Mathlib.Nat.{div-add-mod', div-mul-le_self, add-mul-div_right, add-mul-mod_self_right}
use native.Mathlib.Omega.{arith}
use lib.Dec.{lit<, eqb}
use lib.Pow.{pow_pos, pow_mono, pow-add, shr-shr, high}
use Rattle.lists.specs.Bits.{digit, bit}
use Rattle.lists.specs.Counting.{sum, truth}
use Rattle.lists.proofs.Sums.{bits_below}

-- a digit is the truth of its being 1
digit-truth : (d : ℕ) → d < 2 → d ≡ truth (eqb d 1)
digit-truth zero less = refl
digit-truth (suc zero) less = refl
digit-truth (suc (suc d)) less = absurd (omega arith)

same-digit : (m n j : ℕ) → bit m j ≡ bit n j → digit m j ≡ digit n j
same-digit m n j e =
    digit-truth (digit m j) (mod-lt (m / 2 ^ j) (lit< tt)) ∙ ap truth e ∙ sym (digit-truth (digit n j) (mod-lt (n / 2 ^ j) (lit< tt)))

-- the bits of half a number are its own from bit 1 on
half-bit : (m j : ℕ) → bit (m / 2) j ≡ bit m (1 + j)
half-bit m j = ap (λ (n : ℕ). eqb (n % 2) 1) (shr-shr m 1 j)

-- numbers with the same bits are the same; k bounds them
bounded-bits : (k m n : ℕ) → m ≤ k → n ≤ k → ((j : ℕ) → bit m j ≡ bit n j) → m ≡ n
bounded-bits zero m n low below same = omega arith
bounded-bits (suc k) m n low below same =
    let last : m % 2 ≡ n % 2 =
    sym (ap (λ (d : ℕ). d % 2) (div-one m)) ∙ same-digit m n 0 (same 0) ∙ ap (λ (d : ℕ). d % 2) (div-one n) in
    let rest =
    bounded-bits k (m / 2) (n / 2) (omega (arith, div-mul-le_self m 2)) (omega (arith, div-mul-le_self n 2))
    (λ j. half-bit m j ∙ same (1 + j) ∙ sym (half-bit n j)) in
    omega (arith, last, rest, div-add-mod' m 2, div-add-mod' n 2)

pub same_bits : (m n : ℕ) → ((j : ℕ) → bit m j ≡ bit n j) → m ≡ n
same_bits m n same = bounded-bits (m + n) m n (omega arith) (omega arith) same

-- a number that is 0 from bit n on has no bit there
pub no-bit-above : (m n j : ℕ) → m / 2 ^ n ≡ 0 → n ≤ j → bit m j ≡ false
no-bit-above m n j none h =
    let places : n + (j - n) ≡ j = omega arith in
    let above : m / 2 ^ j ≡ 0 =
    ap (λ (k : ℕ). m / 2 ^ k) (sym places) ∙ sym (shr-shr m n (j - n)) ∙ ap (λ (q : ℕ). q / 2 ^ (j - n)) none ∙ zero-div (2 ^ (j - n)) in
    ap (λ (q : ℕ). eqb (q % 2) 1) above

-- ---- the bits of a sum of truth values, each times its power of two

-- what is added from bit n on leaves the bits below
low_bit : (s a n j : ℕ) → j < n → bit (s + a * 2 ^ n) j ≡ bit s j
low_bit s a n j h =
    let p = n - suc j in
    let places : p + suc j ≡ n = omega arith in
    let power : 2 ^ n ≡ 2 ^ p * (2 ^ j * 2) = rw (sym (pow-suc 2 j), sym (pow-add 2 p (suc j)), places) refl in
    let even : a * 2 ^ n ≡ a * 2 ^ p * 2 * 2 ^ j = omega (arith, ap (λ (q : ℕ). a * q) power) in
    ap (λ (q : ℕ). eqb ((s + q) / 2 ^ j % 2) 1) even
    ∙ ap (λ (q : ℕ). eqb (q % 2) 1) (add-mul-div_right s (a * 2 ^ p * 2) (pow_pos j))
    ∙ ap (λ (d : ℕ). eqb d 1) (add-mul-mod_self_right (s / 2 ^ j) (a * 2 ^ p) 2)

-- the bit at n
truth-bit : (b : Bool) → eqb (truth b % 2) 1 ≡ b
truth-bit true = refl
truth-bit false = refl

high_bit : (s n : ℕ) (b : Bool) → s < 2 ^ n → bit (s + truth b * 2 ^ n) n ≡ b
high_bit s n b h =
    ap (λ (q : ℕ). bit q n) (add_comm s (truth b * 2 ^ n)) ∙ ap (λ (q : ℕ). eqb (q % 2) 1) (high (truth b) n h) ∙ truth-bit b

module _ (f : ℕ → Bool) where
  -- the number whose bits are f 0, f 1, .. , n of them
  abbrev bits : ℕ → ℕ
  bits n = sum (λ (j : ℕ). truth (f j) * 2 ^ j) n

  pub bit-of-sum : (n j : ℕ) → j < n → bit (bits n) j ≡ f j
  unfolding sum
  bit-of-sum zero j h = absurd (not-suc-le-zero h)
  bit-of-sum (suc n) j h =
      ⊎_elim (λ (last : j ≡ n). rw last (high_bit (bits n) n (f n) (bits_below f n)))
      (λ (lower : j < n). low_bit (bits n) (truth (f n)) n j lower ∙ bit-of-sum n j lower) (eq-or-lt_of_le (le_of_suc-le-suc h))

  pub no-bit-of-sum : (n j : ℕ) → n ≤ j → bit (bits n) j ≡ false
  no-bit-of-sum n j h = ap (λ (q : ℕ). eqb (q % 2) 1) (div-eq_of_lt (lt_of_lt_of_le (bits_below f n) (pow_mono h)))

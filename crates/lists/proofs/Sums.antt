-- What carries a loop that counts truth values, what bounds them, and when two counts are alike.
use Prim.Native.Nat.{ℕ, zero, suc, ◌+◌, ◌*◌, ◌^◌, ◌<◌, ◌≤◌}
use mathlib.Core.Path.{◌≡◌, refl, ap, ap₂, ◌∙◌}
use mathlib.Core.Bool.{Bool, true, false}
use native.Mathlib.Nat.{pow-suc, mul-le-mul_right}
use native.Mathlib.Numerals.{add-one}
use native.Mathlib.Omega.{arith}
use mir.Val.{bool_byte}
use Rattle.lists.specs.Counting.{sum, truth, count_true}

pub truth-most : (b : Bool) → truth b ≤ 1
truth-most true = omega arith
truth-most false = omega arith

-- a truth value as the language casts it to a number
pub cast-truth : (b : Bool) → bool_byte b ≡ truth b
cast-truth true = refl
cast-truth false = refl

-- no more are true than there are
pub count_most : (f : ℕ → Bool) (n : ℕ) → count_true f n ≤ n
unfolding count_true sum
count_most f zero = omega arith
count_most f (suc n) = omega (arith, count_most f n, truth-most (f n))

-- as many are true of two rows that agree
pub count-alike : (f g : ℕ → Bool) (n : ℕ) → ((j : ℕ) → j < n → f j ≡ g j) → count_true f n ≡ count_true g n
unfolding count_true sum
count-alike f g zero same = refl
count-alike f g (suc n) same =
    ap₂ (λ (s : ℕ) (b : Bool). s + truth b) (count-alike f g n (λ j h. same j (omega arith))) (same n (omega arith))

-- the bits that truth values set make a number below the next power of two
pub bits_below : (f : ℕ → Bool) (n : ℕ) → sum (λ (j : ℕ). truth (f j) * 2 ^ j) n < 2 ^ n
unfolding sum
bits_below f zero = omega arith
bits_below f (suc n) =
    let most : truth (f n) * 2 ^ n ≤ 1 * 2 ^ n = mul-le-mul_right (2 ^ n) (truth-most (f n)) in
    rw pow-suc (omega (arith, bits_below f n, most))

-- s of the truth values below j, of n in all, are true
pub record Counted (f : ℕ → Bool) (n j s : ℕ) : Type 0 where
  pub inside : j ≤ n
  pub counted : s ≡ count_true f j

module _ {f : ℕ → Bool} {n : ℕ} where
  pub counted_start : Counted f n 0 0
  unfolding count_true sum
  counted_start = record { inside = omega arith; counted = refl }

  pub counted-more : {j s : ℕ} {b : Bool} → Counted f n j s → j < n → b ≡ f j → Counted f n (j + 1) (s + bool_byte b)
  unfolding count_true sum
  counted-more {j} {s} {b} c h e = record { inside = omega arith; counted = rw (add-one, c.counted, cast-truth b, e) refl }

  pub counted-most : {j s : ℕ} → Counted f n j s → s ≤ n
  counted-most {j} {s} c = omega (arith, c.inside, c.counted, count_most f j)

  pub counted-done : {j s : ℕ} → Counted f n j s → n ≤ j → s ≡ count_true f n
  counted-done {j} {s} c h =
      let all : j ≡ n = omega (arith, c.inside) in
      c.counted ∙ ap (count_true f) all

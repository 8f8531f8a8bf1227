-- Bounds that one partial sum shows. A lower bound is shown where there is room for the last power once more and the powers fall by half from there on;
-- an upper bound by any partial sum. And an upper bound but for a rest is, with a unit more, one at some partial sum.
use Prim.Native.Nat.{ℕ, zero, suc, ◌+◌, ◌-◌, ◌*◌, ◌^◌, ◌<◌, ◌≤◌}
use mathlib.Core.Path.{◌≡◌, refl}
use mathlib.Core.Bool.{Bool, true, false}
use native.Mathlib.Nat.{mul-le-mul, mul-le-mul_left, mul-le-mul_right, le_of_mul-le-mul_right, mul-pos, pow-suc, one-le-pow, add-zero, add-suc, add_comm}
use native.Mathlib.Omega.{arith}
use lib.Dec.{leb}
use borrow.Author.Tests.{leb-true, leb-false}
use Rattle.units.specs.One.{one}
use Rattle.exponential.specs.Series.{whole, partial}
use Rattle.exponential.proofs.Enclosing.{Below, Above}

-- ---- denominators grow, and no partial sum is below 1

whole-some : (n : ℕ) → 1 ≤ whole n
unfolding whole
whole-some zero = omega arith
whole-some (suc n) = mul-pos (whole-some n) (omega arith)

whole-most : (n i : ℕ) → whole n ≤ whole (n + i)
unfolding whole
whole-most n zero = rw (add-zero n) (omega arith)
whole-most n (suc i) =
    let some : 1 ≤ one * suc (n + i) = omega arith in
    rw (add-suc n i) (omega (arith, whole-most n i, mul-le-mul_left (whole (n + i)) some))

partial-whole : (x n : ℕ) → whole n ≤ partial x n
unfolding whole partial
partial-whole x zero = omega arith
partial-whole x (suc n) = omega (arith, mul-le-mul_right (one * suc n) (partial-whole x n))

-- ---- a lower bound

module _ (x l : ℕ) where
  -- what is one at a partial sum is one at those before it
  earlier : (n i : ℕ) → l * partial x (n + i) ≤ one * whole (n + i) → l * partial x n ≤ one * whole n
  unfolding whole partial
  earlier n zero h = rw (add-zero n) at h
  earlier n (suc i) h =
      let k = one * suc (n + i) in
      let some : 0 < k = omega arith in
      let next = rw (add-suc n i) at h in
      earlier n i (le_of_mul-le-mul_right {m = l * partial x (n + i)} {n = one * whole (n + i)} {k = k} (omega (arith, next)) some)

  module _ (m : ℕ) (half : 2 * x ≤ one * suc m) (enough : l * (partial x m + x ^ m) ≤ one * whole m) where
    -- the power that is put in once more covers all that follow
    later : (i : ℕ) → l * (partial x (m + i) + x ^ (m + i)) ≤ one * whole (m + i)
    unfolding whole partial
    later zero = rw (add-zero m) enough
    later (suc i) =
        let k = one * suc (m + i) in
        let fall : 2 * x ≤ k = omega arith in
        rw (add-suc m i, pow-suc x (m + i))
        (omega (arith, mul-le-mul_right k (later i), mul-le-mul_left l (mul-le-mul_left (x ^ (m + i)) fall)))

    pub below-shown : Below x l
    below-shown = record { each = λ n. earlier n m (rw (add_comm n m) (omega (arith, later n))) }

-- ---- an upper bound

module _ (x u p : ℕ) (enough : one * whole p ≤ u * partial x p) where
  after : (i : ℕ) → one * whole (p + i) ≤ u * partial x (p + i)
  unfolding whole partial
  after zero = rw (add-zero p) enough
  after (suc i) = rw (add-suc p i) (omega (arith, mul-le-mul_right (one * suc (p + i)) (after i)))

  -- before p the rest alone is enough
  shown : (n : ℕ) (b : Bool) → leb p n ≡ b → one * whole n ≤ u * partial x n + one * whole p * (x + 1) ^ n
  shown n true e =
      let same : p + (n - p) ≡ n = omega (arith, leb-true p n e) in
      let held = rw same at (after (n - p)) in
      omega (arith, held)
  shown n false e =
      let same : n + (p - n) ≡ p = omega (arith, leb-false p n e) in
      let most : whole n ≤ whole p = rw same at (whole-most n (p - n)) in
      omega (arith, most, mul-le-mul_left (one * whole p) (one-le-pow n (x + 1) (omega arith)))

  pub above-shown : Above x u
  above-shown = record { rest = one * whole p; each = λ n. shown n (leb p n) refl }

-- ---- the rest is outgrown

module _ (c : ℕ) where
  slower : (i : ℕ) → c ^ (c + i) ≤ whole (c + i) * c ^ c
  unfolding whole
  slower zero = rw (add-zero c) (omega (arith, mul-le-mul_right (c ^ c) (whole-some c)))
  slower (suc i) =
      let more : c ≤ one * suc (c + i) = omega arith in
      rw (add-suc c i, pow-suc c (c + i)) (omega (arith, mul-le-mul (slower i) more))

  outgrown : (k : ℕ) → (n : ℕ) × (k * c ^ n ≤ whole n)
  unfolding whole
  outgrown k =
      let i = k * (c ^ c * c) in
      let more : i ≤ one * suc (c + i) = omega arith in
      (suc (c + i), rw (pow-suc c (c + i)) (omega (arith, mul-le-mul_left (k * c) (slower i), mul-le-mul_left (whole (c + i)) more)))

pub above-some : {x u : ℕ} → Above x u → (n : ℕ) × (one * whole n ≤ (u + 1) * partial x n)
above-some {x} {u} above =
    let far = outgrown (x + 1) above.rest in
    (far.0, omega (arith, far.1, above.each far.0, partial-whole x far.0))

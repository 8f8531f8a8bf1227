-- Partial sums at a sum of two exponents: the binomial sum of those at one of them. Pascal's rule is the definition, so that each law is an
-- induction over the power, for all places at once, and no coefficient is named.
use Prim.Native.Nat.{ℕ, zero, suc, ◌+◌, ◌*◌, ◌^◌, ◌≤◌}
use mathlib.Core.Path.{◌≡◌, refl, sym, ap, ◌∙◌}
use native.Mathlib.Nat.{mul-le-mul_left, pow-suc, pow-zero}
use native.Mathlib.Omega.{arith}
use Rattle.units.specs.One.{one}
use Rattle.exponential.specs.Series.{partial}

-- (X + b) ^ n times X ^ s, with f j in the place of X ^ j
unfoldable pub binomial : ℕ → (ℕ → ℕ) → ℕ → ℕ → ℕ
binomial b f zero s = f s
binomial b f (suc n) s = binomial b f n (suc s) + b * binomial b f n s

module _ (b : ℕ) where
  -- an inequality of sequences is one of their binomial sums
  pub binomial-most : (u v k : ℕ) (f g h : ℕ → ℕ) → ((j : ℕ) → u * f j ≤ v * g j + k * h j)
      → (n s : ℕ) → u * binomial b f n s ≤ v * binomial b g n s + k * binomial b h n s
  unfolding binomial
  binomial-most u v k f g h each zero s = each s
  binomial-most u v k f g h each (suc n) s =
      omega (arith, binomial-most u v k f g h each n (suc s), mul-le-mul_left b (binomial-most u v k f g h each n s))

  module _ (a : ℕ) where
    abbrev power : ℕ → ℕ
    power j = a ^ j

    -- of powers: the binomial theorem
    pub binomial-power : (n s : ℕ) → binomial b power n s ≡ a ^ s * (a + b) ^ n
    unfolding binomial
    binomial-power zero s = rw (pow-zero (a + b)) (omega arith)
    binomial-power (suc n) s =
        let next : binomial b power n (suc s) ≡ a ^ s * a * (a + b) ^ n = rw (sym (pow-suc a s)) (binomial-power n (suc s)) in
        rw (pow-suc (a + b) n) (omega (arith, next, ap (λ (m : ℕ). b * m) (binomial-power n s)))

    abbrev sums : ℕ → ℕ → ℕ
    sums n s = binomial b (partial a) n s

    -- s times the sum one place lower, which place 0 lacks
    unfoldable lowered : ℕ → ℕ → ℕ
    lowered n zero = 0
    lowered n (suc s) = suc s * sums n s

    partial-step : (s : ℕ) → partial a s ≡ one * lowered 0 s + a ^ s
    unfolding binomial partial lowered
    partial-step zero = rw (pow-zero a) (omega arith)
    partial-step (suc s) = omega arith

    lowered-step : (n s : ℕ) → lowered (suc n) s ≡ s * sums n s + b * lowered n s
    unfolding binomial lowered
    lowered-step n zero = omega arith
    lowered-step n (suc s) = omega arith

    -- the derivative of X ^ s (X + b) ^ n, times one, and the powers make up the sum of partial sums
    sums-step : (n s : ℕ) → sums (suc n) s ≡ one * (lowered (suc n) s + suc n * sums n s) + binomial b power (suc n) s
    unfolding binomial partial lowered
    sums-step zero s = omega (arith, lowered-step 0 s, ap (λ (m : ℕ). b * m) (partial-step s))
    sums-step (suc n) s =
        omega (arith, lowered-step (suc n) s, sums-step n (suc s), ap (λ (m : ℕ). b * m) (sums-step n s))

    -- of partial sums at a: the partial sum at a + b
    pub binomial-partial : (n : ℕ) → sums n 0 ≡ partial (a + b) n
    unfolding binomial partial lowered
    binomial-partial zero = refl
    binomial-partial (suc n) =
        let powers : binomial b power (suc n) 0 ≡ (a + b) ^ suc n = binomial-power (suc n) 0 ∙ rw (pow-zero a) (omega arith) in
        omega (arith, sums-step n 0, powers, ap (λ (m : ℕ). m * (one * suc n)) (binomial-partial n))

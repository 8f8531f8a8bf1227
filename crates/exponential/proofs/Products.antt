-- Bounds at two exponents multiply to bounds at their sum: the binomial sum of what the first says of each partial sum, times what the second says.
use Prim.Native.Nat.{ℕ, zero, suc, ◌+◌, ◌*◌, ◌^◌, ◌≤◌}
use mathlib.Core.Path.{◌≡◌, refl, ap}
use native.Mathlib.Nat.{mul-le-mul_left, mul-le-mul_right, pow-suc, pow-zero, pow-le-pow_left, zero-add}
use native.Mathlib.Omega.{arith}
use Rattle.units.specs.One.{one}
use Rattle.exponential.specs.Series.{whole, partial}
use Rattle.exponential.proofs.Binomial.{binomial, binomial-most, binomial-power, binomial-partial}
use Rattle.exponential.proofs.Enclosing.{Below, Above}

partial-none : (n : ℕ) → partial 0 n ≡ whole n
unfolding partial whole
partial-none zero = refl
partial-none (suc n) = rw (pow-suc 0 n) (omega (arith, ap (λ (m : ℕ). m * (one * suc n)) (partial-none n)))

module _ (a b n : ℕ) where
  -- ---- the three sequences that are summed, each at place 0

  at_sum : binomial b (partial a) n 0 ≡ partial (a + b) n
  at_sum = binomial-partial b a n

  at_second : binomial b (partial 0) n 0 ≡ partial b n
  at_second = rw zero-add at (binomial-partial b 0 n)

  at_rest : binomial b (λ (j : ℕ). (a + 1) ^ j) n 0 ≡ (a + b + 1) ^ n
  at_rest =
      let base : a + 1 + b ≡ a + b + 1 = omega arith in
      rw (binomial-power b (a + 1) n 0, pow-zero (a + 1), base) (omega arith)

module _ {a b l m r : ℕ} where
  pub below-product : Below a l → Below b m → r * one ≤ l * m → Below (a + b) r
  below-product first second least =
      record {
        each = λ n.
            let summed = binomial-most b l one 0 (partial a) (partial 0) (partial 0) (λ j. omega (arith, first.each j, partial-none j)) n 0 in
            let both = mul-le-mul_left m (rw (at_sum a b n, at_second a b n) at summed) in
            omega (arith, both, second.each n, mul-le-mul_right (partial (a + b) n) least);
      }

  pub above-product : Above a l → Above b m → l * m ≤ r * one → Above (a + b) r
  above-product first second most =
      record {
        rest = first.rest * m + second.rest;
        each = λ n.
            let powers : ℕ → ℕ = λ (j : ℕ). (a + 1) ^ j in
            let summed = binomial-most b one l first.rest (partial 0) (partial a) powers (λ j. omega (arith, first.each j, partial-none j)) n 0 in
            let both = mul-le-mul_left m (rw (at_sum a b n, at_second a b n, at_rest a b n) at summed) in
            let larger = mul-le-mul_left second.rest (pow-le-pow_left {n = b + 1} {m = a + b + 1} (omega arith) n) in
            omega (arith, both, second.each n, mul-le-mul_right (partial (a + b) n) most, larger);
      }

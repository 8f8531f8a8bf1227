-- The pair that is worked out keeps the promise: along the bits, each factor multiplies the bounds and widens them by two units at most.
use Prim.Native.Nat.{ℕ, suc, ◌+◌, ◌*◌, ◌/◌, ◌%◌, ◌^◌, ◌<◌}
use mathlib.Core.Path.{◌≡◌, ap}
use mathlib.Core.Bool.{true, and-eq-true_iff}
use mathlib.Core.List.{List, [], ◌∷◌}
use native.Mathlib.Nat.{mod-lt, mod-eq_of_lt, mod-one}
use native.Mathlib.Omega.{arith}
use native.Mathlib.Numerals.{add-one}
use lib.ListN.{length}
use lib.Pow.{mod-pow-add}
use Rattle.units.specs.One.{one}
use Rattle.units.specs.declared.bounds.Enclosure.{Enclosure}
use Rattle.exponential.specs.Laws.{WorkedSurvives}
use Rattle.exponential.specs.Worked.{grain, powers, reach, factors, raised, line, times, times_each, survival_of}
use Rattle.exponential.proofs.Enclosing.{Enclosed}
use Rattle.exponential.proofs.Enclosed.{raised-most, line-encloses, widened, times-encloses, above-raised, near-raised, ordered-raised}
use Rattle.exponential.proofs.Table.{right, all_right, table-right, factor-right}

-- the lowest bits with one more
bits-more : (bits n : ℕ) → bits % 2 ^ suc n ≡ bits / 2 % 2 ^ n * 2 + bits % 2
bits-more bits n = rw (← add-one n) (mod-pow-add bits n 1)

-- as many of the lowest bits as there are factors
each-encloses : (row : List ℕ) (power bits : ℕ) {x gap : ℕ} {b : Enclosure} → all_right power row ≡ true → Enclosed x gap b
    → Enclosed (x + power * (bits % 2 ^ length row)) (gap + 2 * length row) (times_each bits row b)
unfolding times_each all_right
each-encloses [] power bits all e = widened e (rw (mod-one bits) (omega arith)) (omega arith)
each-encloses (factor ∷ rest) power bits {x} {gap} {b} all e =
    let tested = (and-eq-true_iff (right power factor) (all_right (2 * power) rest)).0 all in
    let bit = times-encloses e (factor-right power factor tested.0) (bits % 2) (mod-lt bits {m = 2} (omega arith)) in
    let n = length rest in
    let same : x + power * (bits % 2) + 2 * power * (bits / 2 % 2 ^ n) ≡ x + power * (bits % 2 ^ suc n) = rw (bits-more bits n) (omega arith) in
    widened (each-encloses rest (2 * power) (bits / 2) tested.1 bit) same (omega arith)

-- all bits of an exponent
reached : (x : ℕ) → x < reach → Enclosed x (1 + 2 * powers) (times_each (x / grain) factors (line (x % grain)))
unfolding factors
reached x less =
    let low = line-encloses (x % grain) (mod-lt x {m = grain} (omega arith)) in
    let high : x / grain % 2 ^ powers ≡ x / grain = mod-eq_of_lt (omega (arith, less)) in
    let same : x % grain + grain * (x / grain % 2 ^ powers) ≡ x = rw high (omega arith) in
    widened (each-encloses factors grain (x / grain) table-right low) same (omega arith)

certain : {x : ℕ} → x ≡ 0 → survival_of x ≡ record { lower = one; upper = one }
unfolding survival_of times_each times factors line raised
certain none = ap survival_of none

pub worked-survives : WorkedSurvives
unfolding survival_of
worked-survives x less =
    let e = reached x less in
    record {
      below = e.below.each;
      above = above-raised e;
      ordered = ordered-raised e;
      most = raised-most _;
      near = omega (arith, near-raised e);
      certain = λ none. (ap (λ (b : Enclosure). b.lower) (certain none), ap (λ (b : Enclosure). b.upper) (certain none));
    }

-- The factors of the table, each shown right by a partial sum: one test that is computed over the whole table.
use Prim.Native.Nat.{ℕ, suc, ◌+◌, ◌*◌, ◌^◌}
use mathlib.Core.Path.{◌≡◌, refl}
use mathlib.Core.Bool.{Bool, true, ◌&&◌, and-eq-true_iff}
use mathlib.Core.List.{List, [], ◌∷◌}
use lib.Dec.{leb, ltb}
use borrow.Author.Tests.{leb-true, ltb-true}
use Rattle.units.specs.One.{one}
use Rattle.exponential.specs.Series.{whole, partial}
use Rattle.exponential.specs.Worked.{grain, factors}
use Rattle.exponential.proofs.Enclosing.{Factor}
use Rattle.exponential.proofs.Certificates.{below-shown, above-shown}

-- the power to which the partial sums go: more than twice the largest exponent, so that the terms fall by half from there on
abbrev last : ℕ
last = 64

-- f is the factor of an exponent x: terms fall by half behind the last, f is a lower bound with room for the last once more, a unit more is an upper
-- bound, and f is less than one
unfoldable pub right : ℕ → ℕ → Bool
right x f =
    leb (2 * x) (one * suc last)
    && (leb (f * (partial x last + x ^ last)) (one * whole last) && (leb (one * whole last) ((f + 1) * partial x last) && ltb f one))

-- a row of factors, the first for a power and each later one for twice the power before
unfoldable pub all_right : ℕ → List ℕ → Bool
all_right power [] = true
all_right power (f ∷ rest) = right power f && all_right (2 * power) rest

pub table-right : all_right grain factors ≡ true
unfolding all_right right factors partial whole
table-right = refl

pub factor-right : (x f : ℕ) → right x f ≡ true → Factor x f
unfolding right
factor-right x f e =
    let half = (and-eq-true_iff (leb (2 * x) (one * suc last)) _).0 e in
    let least = (and-eq-true_iff (leb (f * (partial x last + x ^ last)) (one * whole last)) _).0 half.1 in
    let most = (and-eq-true_iff (leb (one * whole last) ((f + 1) * partial x last)) _).0 least.1 in
    record {
      below = below-shown x f last (leb-true _ _ half.0) (leb-true _ _ least.0);
      above = above-shown x (f + 1) last (leb-true _ _ most.0);
      most = ltb-true _ _ most.1;
    }

-- Components whose probabilities sum to one: what is left of them without the first, and that no set of joint states has an exact probability
-- above one.
use Prim.Native.Nat.{ℕ, suc, ◌*◌, ◌^◌, ◌≤◌}
use mathlib.Core.Path.{◌≡◌}
use mathlib.Core.Bool.{Bool}
use mathlib.Core.List.{List, [], ◌∷◌}
use native.Mathlib.Nat.{pow-succ', mul-le-mul_left}
use native.Mathlib.Omega.{arith}
use lib.ListN.{length, get_or}
use Rattle.lists.specs.Counting.{sum}
use Rattle.lists.proofs.SumBelow.{sum-scaled, sum-most}
use Rattle.lists.proofs.SumOver.{counted-most}
use Rattle.units.specs.One.{one}
use Rattle.model.specs.Good.{StateProbabilities}
use Rattle.probability.specs.Exact.{exact}
use Rattle.accuracy.proofs.Exact.{exact-last, exact-first}

module _ {c : ℕ} {cs : List ℕ} where
  pub known-none : StateProbabilities (c ∷ cs) [] → ⊥
  known-none known = omega (arith, known.rows)

  module _ {row : List ℕ} {rows : List (List ℕ)} (known : StateProbabilities (c ∷ cs) (row ∷ rows)) where
    pub first-whole : sum (λ (s : ℕ). get_or row s 0) c ≡ one
    first-whole = (known.whole 0 (omega arith)).sums

    pub later-known : StateProbabilities cs rows
    later-known = record { rows = omega (arith, known.rows); whole = λ k h. known.whole (suc k) (omega arith) }

pub exact-most : (counts : List ℕ) (rows : List (List ℕ)) → StateProbabilities counts rows → (concerned : List ℕ → Bool)
    → exact rows counts concerned ≤ one ^ length counts
exact-most [] rows known concerned = rw (exact-last rows concerned) (counted-most (concerned []) 1)
exact-most (c ∷ cs) [] known concerned = absurd (known-none known)
exact-most (c ∷ cs) (row ∷ rows) known concerned =
    let later : ℕ → ℕ = λ s. exact rows cs (λ (x : List ℕ). concerned (s ∷ x)) in
    let states =
    sum-most (λ (s : ℕ). get_or row s 0 * later s) (λ (s : ℕ). get_or row s 0 * one ^ length cs) c
    (λ s h. mul-le-mul_left (get_or row s 0) (exact-most cs rows (later-known known) (λ (x : List ℕ). concerned (s ∷ x)))) in
    rw (exact-first row rows c cs concerned, pow-succ')
    (rw (sum-scaled (λ (s : ℕ). get_or row s 0) (one ^ length cs) c, first-whole known) at states)

-- The exact probability of a set of joint states, component by component: the sum over the states of the first of its probability times the
-- exact probability of what is left to the later ones.
use Prim.Native.Nat.{ℕ, zero, suc, ◌+◌, ◌*◌}
use mathlib.Core.Path.{◌≡◌, refl, sym, ap, ◌∙◌}
use mathlib.Core.Bool.{Bool}
use mathlib.Core.List.{List, [], ◌∷◌}
use native.Mathlib.Nat.{zero-add, add-zero}
use native.Mathlib.Numerals.{add-one}
use native.Mathlib.Omega.{arith}
use lib.ListN.{get_or}
use Rattle.lists.specs.Counting.{sum, counted, sum_over}
use Rattle.lists.proofs.SumOver.{sum-over-those, counted-scaled, sum-over-append, sum-over-scaled, sum-over-map}
use Rattle.joint_states.specs.JointStates.{divided, joint_states}
use Rattle.paths.proofs.Ways.{headed}
use Rattle.probability.specs.Exact.{weight, exact}

-- ---- rows of each state

module _ (marks : ℕ → ℕ) (rows : ℕ → List (List ℕ)) (f : List ℕ → ℕ) where
  -- the sum over the rows of state s, its mark in front
  abbrev state_sum : ℕ → ℕ
  state_sum s = sum_over (λ (row : List ℕ). f (marks s ∷ row)) (rows s)

  sum-over-divided : (s n : ℕ) → sum state_sum s + sum_over f (divided marks rows s n) ≡ sum state_sum (s + n)
  unfolding divided sum sum_over
  sum-over-divided s zero = rw (add-zero s) (omega arith)
  sum-over-divided s (suc n) =
      let rest = divided marks rows (s + 1) n in
      let next : sum state_sum (s + 1) ≡ sum state_sum s + state_sum s = rw (add-one s) refl in
      let places : s + 1 + n ≡ s + suc n = omega arith in
      omega (
        arith,
        sum-over-append f (headed (marks s) (rows s)) rest,
        sum-over-map f (λ (row : List ℕ). marks s ∷ row) (rows s),
        next,
        sum-over-divided (s + 1) n,
        ap (sum state_sum) places,
      )

  sum-over-states : (n : ℕ) → sum_over f (divided marks rows 0 n) ≡ sum state_sum n
  unfolding sum
  sum-over-states n = omega (arith, sum-over-divided 0 n, ap (sum state_sum) (zero-add n))

-- ---- every joint state in step, those concerned with their weight

pub exact-terms : (rows : List (List ℕ)) (counts : List ℕ) (concerned : List ℕ → Bool)
    → exact rows counts concerned ≡ sum_over (λ (x : List ℕ). counted (concerned x) (weight rows x)) (joint_states counts)
unfolding exact
exact-terms rows counts concerned = sum-over-those concerned (weight rows) (joint_states counts)

-- ---- no component

pub exact-last : (rows : List (List ℕ)) (concerned : List ℕ → Bool) → exact rows [] concerned ≡ counted (concerned []) 1
unfolding weight joint_states sum_over
exact-last rows concerned = exact-terms rows [] concerned ∙ add-zero (counted (concerned []) 1)

-- ---- the first component

module _ (row : List ℕ) (rows : List (List ℕ)) (c : ℕ) (cs : List ℕ) (concerned : List ℕ → Bool) where
  -- the exact probability of what is concerned once the first component has state s
  abbrev later : ℕ → ℕ
  later s = exact rows cs (λ (x : List ℕ). concerned (s ∷ x))

  pub exact-first : exact (row ∷ rows) (c ∷ cs) concerned ≡ sum (λ (s : ℕ). get_or row s 0 * later s) c
  unfolding weight joint_states
  exact-first =
      exact-terms (row ∷ rows) (c ∷ cs) concerned
      ∙ sum-over-states (λ (s : ℕ). s) (λ (s : ℕ). joint_states cs) (λ (x : List ℕ). counted (concerned x) (weight (row ∷ rows) x)) c
      ∙ (λ i. sum (λ (s : ℕ). state s i) c)
    where
      state : (s : ℕ) → sum_over (λ (x : List ℕ). counted (concerned (s ∷ x)) (get_or row s 0 * weight rows x)) (joint_states cs) ≡ get_or row s 0 * later s
      state s =
          (λ i. sum_over (λ (x : List ℕ). counted-scaled (concerned (s ∷ x)) (get_or row s 0) (weight rows x) i) (joint_states cs))
          ∙ sum-over-scaled (get_or row s 0) (λ (x : List ℕ). counted (concerned (s ∷ x)) (weight rows x)) (joint_states cs)
          ∙ ap (λ (n : ℕ). get_or row s 0 * n) (sym (exact-terms rows cs (λ (x : List ℕ). concerned (s ∷ x))))

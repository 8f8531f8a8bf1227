-- The exact probability of the joint states that fit a path is the product of the factors of its components, a settled one's probability and one
-- for a blank one: by induction over the components. Of the states of the first, all fit a blank mark, and their probabilities sum to one; only the
-- marked one fits a settled mark.
use Prim.Native.Nat.{ℕ, zero, suc, ◌*◌, ◌<◌}
use mathlib.Core.Path.{◌≡◌, refl, sym, ap, ◌∙◌}
use mathlib.Core.Bool.{Bool, true, false, ◌&&◌, ◌||◌, cond}
use mathlib.Core.List.{List, [], ◌∷◌}
use native.Mathlib.Nat.{mul-zero, mul_assoc}
use native.Mathlib.Omega.{arith}
use lib.Dec.{eqb}
use lib.ListN.{length, get_or}
use borrow.Author.Tests.{eqb-false, eq-eqb, ne_eqb}
use Rattle.lists.specs.Counting.{sum}
use Rattle.lists.proofs.SumBelow.{sum-scaled, sum-only}
use Rattle.lists.proofs.SumOver.{sum-over-none}
use Rattle.units.specs.One.{one}
use Rattle.joint_states.specs.JointStates.{joint_states}
use Rattle.entries.specs.Entries.{blank_mark}
use Rattle.paths.specs.Words.{fits}
use Rattle.model.specs.Good.{StateProbabilities}
use Rattle.probability.specs.Exact.{exact}
use Rattle.accuracy.proofs.Sums.{known-none, first-whole, later-known}
use Rattle.accuracy.proofs.Exact.{exact-terms, exact-last, exact-first}
use Rattle.accuracy.proofs.Marks.{Marked, marked-none, marked-later}

-- the factor of component k: its marked state's probability, and one where it is blank
abbrev pub factor : List (List ℕ) → List ℕ → ℕ → ℕ
factor rows entry k =
    cond (eqb (get_or entry k blank_mark) blank_mark) one (get_or (get_or rows k []) (get_or entry k blank_mark) 0)

-- the product of the first n factors
unfoldable pub factors : (ℕ → ℕ) → ℕ → ℕ
factors f zero = 1
factors f (suc n) = factors f n * f n

factors-first : (f : ℕ → ℕ) (n : ℕ) → factors f (suc n) ≡ f 0 * factors (λ (k : ℕ). f (suc k)) n
unfolding factors
factors-first f zero = omega arith
factors-first f (suc n) = ap (λ (m : ℕ). m * f (suc n)) (factors-first f n) ∙ mul_assoc (f 0) (factors (λ (k : ℕ). f (suc k)) n) (f (suc n))

module _ (row : List ℕ) (rows : List (List ℕ)) (c m : ℕ) (cs entry : List ℕ) where
  -- the exact probability of what fits the marks of the later components
  abbrev rest : ℕ
  rest = exact rows cs (λ (x : List ℕ). fits x entry)

  -- the same, where the mark of the first component is met; nothing fits where it is not
  abbrev where_met : Bool → ℕ
  where_met met = exact rows cs (λ (x : List ℕ). met && fits x entry)

  unmet : where_met false ≡ 0
  unmet = exact-terms rows cs (λ (x : List ℕ). false && fits x entry) ∙ sum-over-none (joint_states cs)

  states-met : (blank : Bool) → sum (λ (s : ℕ). get_or row s 0) c ≡ one → (blank ≡ false → m < c)
      → sum (λ (s : ℕ). get_or row s 0 * where_met (blank || eqb m s)) c ≡ cond blank one (get_or row m 0) * rest
  states-met true whole below = sum-scaled (λ (s : ℕ). get_or row s 0) rest c ∙ ap (λ (n : ℕ). n * rest) whole
  states-met false whole below =
      sum-only (λ (s : ℕ). get_or row s 0 * where_met (eqb m s)) c m (below refl) others
      ∙ ap (λ (met : Bool). get_or row m 0 * where_met met) (eq-eqb m m refl)
    where
      others : (s : ℕ) → (s ≡ m → ⊥) → get_or row s 0 * where_met (eqb m s) ≡ 0
      others s other =
          ap (λ (met : Bool). get_or row s 0 * where_met met) (ne_eqb m s (λ same. other (sym same)))
          ∙ ap (λ (n : ℕ). get_or row s 0 * n) unmet
          ∙ mul-zero (get_or row s 0)

pub exact-fitting : (counts : List ℕ) (rows : List (List ℕ)) (entry : List ℕ) → StateProbabilities counts rows → Marked counts entry
    → exact rows counts (λ (x : List ℕ). fits x entry) ≡ factors (factor rows entry) (length counts)
unfolding fits factors
exact-fitting [] rows entry known marked = exact-last rows (λ (x : List ℕ). fits x entry)
exact-fitting (c ∷ cs) [] entry known marked = absurd (known-none known)
exact-fitting (c ∷ cs) (row ∷ rows) [] known marked = absurd (marked-none marked)
exact-fitting (c ∷ cs) (row ∷ rows) (m ∷ entry) known marked =
    exact-first row rows c cs (λ (x : List ℕ). fits x (m ∷ entry))
    ∙ states-met row rows c m cs entry (eqb m blank_mark) (first-whole known)
    (λ settled. marked.below 0 (omega arith) (eqb-false m blank_mark settled))
    ∙ ap (λ (n : ℕ). factor (row ∷ rows) (m ∷ entry) 0 * n) (exact-fitting cs rows entry (later-known known) (marked-later marked))
    ∙ sym (factors-first (factor (row ∷ rows) (m ∷ entry)) (length cs))

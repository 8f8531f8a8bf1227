-- Sums over those paths whose class is kept enclose the exact probability of the joint states whose class is: each joint state fits one path only,
-- which bears its class, so the exact probability is the sum of those of the paths that are kept, and each of them is enclosed.
use Prim.Native.Nat.{ℕ, suc, ◌^◌}
use mathlib.Core.Path.{◌≡◌, sym, ap, ◌∙◌}
use mathlib.Core.Bool.{Bool, true, false}
use mathlib.Core.List.{List, [], ◌∷◌}
use native.Mathlib.Nat.{add-zero}
use native.Mathlib.Omega.{arith}
use lib.ListN.{get_or}
use Rattle.lists.specs.Counting.{counted, sum_over}
use Rattle.lists.proofs.Elements.{Every}
use Rattle.lists.proofs.SumOver.{sum-over-alike, sum-over-counted, sum-over-swapped, sum-over-those}
use Rattle.units.specs.One.{one}
use Rattle.units.specs.Rounding.{down, up}
use Rattle.units.specs.Within.{Within}
use Rattle.units.proofs.Within.{within_none, within-sum, within_cap}
use Rattle.joint_states.specs.JointStates.{JointState, joint_states}
use Rattle.joint_states.proofs.Numbered.{all-joint}
use Rattle.entries.specs.Entries.{class_borne}
use Rattle.paths.specs.Words.{fits}
use Rattle.model.specs.Good.{Good}
use Rattle.model.specs.Model.{Model, components, paths_of, probability_table}
use Rattle.model.proofs.Paths.{one-path}
use Rattle.probability.specs.Bounds.{path_bound}
use Rattle.probability.specs.Exact.{weight}
use Rattle.probability.proofs.TotalTerms.{total-terms}
use Rattle.accuracy.specs.Accuracy.{exact_of, path_distance, total_distance, TotalWithin}
use Rattle.accuracy.proofs.Exact.{exact-terms}
use Rattle.accuracy.proofs.PathBounds.{path-within}
use Rattle.accuracy.proofs.Sums.{exact-most}

-- ---- enclosed terms have enclosed sums

within-counted : (b : Bool) {lower upper far x w : ℕ} → Within lower upper far x w → Within (counted b lower) (counted b upper) (counted b far) (counted b x) w
within-counted true within = within
within-counted false {w = w} within = within_none w

within-sums : {A : Type 0} (lower upper far x : A → ℕ) (w : ℕ) (d : A) (l : List A) → Every (λ (a : A). Within (lower a) (upper a) (far a) (x a) w) d l
    → Within (sum_over lower l) (sum_over upper l) (sum_over far l) (sum_over x l) w
unfolding sum_over
within-sums lower upper far x w d [] each = within_none w
within-sums lower upper far x w d (a ∷ l) each =
    within-sum (each 0 (omega arith)) (within-sums lower upper far x w d l (λ k h. each (suc k) (omega arith)))

-- ---- each joint state is counted with the one path that it fits

module _ (m : Model) (good : Good m) (keep : ℕ → Bool) where
  abbrev kept : List ℕ → Bool
  kept entry = keep (class_borne (components m) entry)

  -- the weight of joint state x where it fits an entry whose class is kept
  abbrev fitting_weight : List ℕ → List ℕ → ℕ
  fitting_weight x entry = counted (fits x entry) (counted (kept entry) (weight m.probabilities x))

  joint-weight : (x : List ℕ) → JointState m.counts x → counted (keep (m.class x)) (weight m.probabilities x) ≡ sum_over (fitting_weight x) (paths_of m)
  unfolding sum_over
  joint-weight x j =
      let fit = one-path m good x j in
      let f : List ℕ → ℕ = λ entry. counted (kept entry) (weight m.probabilities x) in
      sym
      (sym (sum-over-those (fits x) f (paths_of m))
      ∙ ap (sum_over f) fit.only
      ∙ add-zero (f fit.path)
      ∙ ap (λ (class : ℕ). counted (keep class) (weight m.probabilities x)) fit.bears)

  exact-kept : exact_of m (λ (x : List ℕ). keep (m.class x))
      ≡ sum_over (λ (entry : List ℕ). counted (kept entry) (exact_of m (λ (x : List ℕ). fits x entry))) (paths_of m)
  exact-kept =
      exact-terms m.probabilities m.counts (λ (x : List ℕ). keep (m.class x))
      ∙ sum-over-alike (λ (x : List ℕ). counted (keep (m.class x)) (weight m.probabilities x)) (λ (x : List ℕ). sum_over (fitting_weight x) (paths_of m)) []
      (joint_states m.counts) (λ i h. joint-weight (get_or (joint_states m.counts) i []) (all-joint m.counts i h))
      ∙ sum-over-swapped fitting_weight (joint_states m.counts) (paths_of m)
      ∙ (λ i. sum_over (λ (entry : List ℕ). fitting-weights entry i) (paths_of m))
    where
      fitting-weights : (entry : List ℕ) → sum_over (λ (x : List ℕ). fitting_weight x entry) (joint_states m.counts)
          ≡ counted (kept entry) (exact_of m (λ (x : List ℕ). fits x entry))
      fitting-weights entry =
          sum-over-counted (kept entry) (λ (x : List ℕ). fits x entry) (weight m.probabilities) (joint_states m.counts)
          ∙ ap (counted (kept entry)) (sym (exact-terms m.probabilities m.counts (λ (x : List ℕ). fits x entry)))

  -- the distance of the paths that are kept
  distance-terms : total_distance (components m) keep (paths_of m) ≡ sum_over (λ (entry : List ℕ). counted (kept entry) (path_distance (components m) entry)) (paths_of m)
  unfolding total_distance
  distance-terms = sum-over-those kept (path_distance (components m)) (paths_of m)

pub total-within : TotalWithin
total-within m good keep =
    let n = components m in
    let entries = paths_of m in
    let table = probability_table m in
    let terms =
    within-sums (λ (entry : List ℕ). counted (keep (class_borne n entry)) (path_bound down table n entry))
    (λ (entry : List ℕ). counted (keep (class_borne n entry)) (path_bound up table n entry))
    (λ (entry : List ℕ). counted (keep (class_borne n entry)) (path_distance n entry))
    (λ (entry : List ℕ). counted (keep (class_borne n entry)) (exact_of m (λ (x : List ℕ). fits x entry)))
    (one ^ n) [] entries (λ i h. within-counted (keep (class_borne n (get_or entries i []))) (path-within m good i h)) in
    within_cap
    (rw (
      sym (total-terms down table n keep entries),
      sym (total-terms up table n keep entries),
      sym (distance-terms m good keep),
      sym (exact-kept m good keep),
    ) at terms)
    (exact-most m.counts m.probabilities good.probabilities (λ (x : List ℕ). keep (m.class x)))

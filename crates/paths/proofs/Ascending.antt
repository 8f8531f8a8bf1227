-- Paths ascend by state: by induction over the components, since rows of one state have the same mark in front, and rows of two states have
-- marks that rise with the state.
use Prim.Native.Nat.{ℕ, zero, suc, ◌+◌, ◌<◌, ◌≤◌}
use mathlib.Core.Path.{◌≡◌, refl, sym, subst}
use mathlib.Core.Bool.{Bool, true, false}
use mathlib.Core.List.{List, [], ◌∷◌}
use native.Mathlib.Nat.{not-suc-le-zero}
use native.Mathlib.Omega.{arith}
use lib.ListN.{length, get_or}
use Rattle.lists.specs.Product.{product}
use Rattle.lists.proofs.Elements.{Every, pairs-append, every_map, pairs-map}
use Rattle.joint_states.specs.JointStates.{divided}
use Rattle.entries.specs.Entries.{blank_mark}
use Rattle.paths.specs.Paths.{part, is_blank, paths}
use Rattle.paths.specs.Ways.{mark, ways, branches}
use Rattle.paths.specs.Words.{Ascends, Ascending}
use Rattle.paths.specs.Theorems.{PathsAscend}
use Rattle.paths.proofs.Parts.{first_some, first-most, part-block}
use Rattle.paths.proofs.Placed.{placed}
use Rattle.paths.proofs.Ways.{part_paths, paths-branches, headed, ways-most}

-- ---- two entries

module _ (n : ℕ) (earlier later : List ℕ) where
  -- they differ in the first component
  ascends-first : (s t : ℕ) → s < t → t < blank_mark → Ascends (suc n) (s ∷ earlier) (t ∷ later)
  ascends-first s t h most =
      record {
        component = 0;
        inside = omega arith;
        alike = λ k less. absurd (not-suc-le-zero less);
        settled_earlier = λ blank. omega arith;
        settled_later = λ blank. omega arith;
        lower = h;
      }

  -- they differ in a later one
  ascends-later : (m : ℕ) → Ascends n earlier later → Ascends (suc n) (m ∷ earlier) (m ∷ later)
  ascends-later m a =
      record {
        component = suc a.component;
        inside = omega (arith, a.inside);
        alike = alike;
        settled_earlier = a.settled_earlier;
        settled_later = a.settled_later;
        lower = a.lower;
      }
    where
      alike : (k : ℕ) → k < suc a.component → get_or (m ∷ earlier) k 0 ≡ get_or (m ∷ later) k 0
      alike zero h = refl
      alike (suc k) h = a.alike k (omega arith)

-- ---- rows of each state, where marks rise with the state

-- of two states below `states`, the later one has the higher mark, which is not the blank mark
record Rising (marks : ℕ → ℕ) (states : ℕ) : Type 0 where
  lower : (s t : ℕ) → s < t → t < states → marks s < marks t
  most : (s t : ℕ) → s < t → t < states → marks t < blank_mark

mark-rising : (b : Bool) (c : ℕ) → c ≤ blank_mark → Rising (mark b) (ways b c)
unfolding mark ways
mark-rising true c h = record { lower = λ s t less below. absurd (omega arith); most = λ s t less below. absurd (omega arith) }
mark-rising false c h = record { lower = λ s t less below. less; most = λ s t less below. omega arith }

module _ (n : ℕ) (marks : ℕ → ℕ) (rows : ℕ → List (List ℕ)) (states : ℕ) (rising : Rising marks states)
    (each : (s : ℕ) → s < states → Ascending n (rows s)) where
  -- a row of state s in front of those of the later states
  across : (s k : ℕ) → s + suc k ≤ states → (row : List ℕ) → Every (Ascends (suc n) (marks s ∷ row)) [] (divided marks rows (s + 1) k)
  across s k all row i h =
      let p = placed marks rows states (s + 1) k (omega arith) i h in
      let t = p.state in
      let later : s < t = omega (arith, p.from) in
      subst (Ascends (suc n) (marks s ∷ row)) (sym p.holds)
      (ascends-first n row (get_or (rows t) p.row []) (marks s) (marks t) (rising.lower s t later p.below) (rising.most s t later p.below))

  divided-ascends : (s k : ℕ) → s + k ≤ states → Ascending (suc n) (divided marks rows s k)
  unfolding divided
  divided-ascends s zero all i j less h = absurd (not-suc-le-zero h)
  divided-ascends s (suc k) all i j less h =
      let rest = divided marks rows (s + 1) k in
      pairs-append (Ascends (suc n)) [] (headed (marks s) (rows s)) rest
      (pairs-map (λ (row : List ℕ). marks s ∷ row) [] [] (Ascends (suc n)) (rows s)
      (λ p q lower inside. ascends-later n (get_or (rows s) p []) (get_or (rows s) q []) (marks s) (each s (omega arith) p q lower inside)))
      (divided-ascends (s + 1) k (omega arith))
      (every_map (λ (row : List ℕ). marks s ∷ row) [] [] (λ (entry : List ℕ). Every (Ascends (suc n) entry) [] rest) (rows s)
      (λ p inside. across s k all (get_or (rows s) p [])))
      i j less h

pub paths-ascend : PathsAscend
unfolding paths branches
paths-ascend [] block b = λ i j less h. absurd (omega arith)
paths-ascend (c ∷ cs) block b =
    let blank = is_blank c (product cs) block in
    let most = ways-most blank c (first_some b) in
    rw (paths-branches c cs block)
    (divided-ascends (length cs) (mark blank) (part_paths cs block) (ways blank c) (mark-rising blank c (first-most b))
    (λ s below. paths-ascend cs (part (product cs) s block) (part-block b s (omega arith)))
    0 (ways blank c) (omega arith))

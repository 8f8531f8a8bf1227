-- What a joint state loses is what its fault tree says, or the leaf that it reaches in a drawn tree. What carries it: the truth of a gate is set once, from
-- those of lower gates, which stay as they are; bit j of a class is the truth that was set there; and on a list a joint state fits the one path that bears
-- its class.
use Prim.Native.Nat.{ℕ, zero, suc, ◌+◌, ◌<◌, ◌≤◌}
use mathlib.Core.Path.{◌≡◌, refl, sym, ap, subst, ◌∙◌}
use mathlib.Core.Bool.{Bool, true, false, false≢true}
use mathlib.Core.List.{List, [], ◌∷◌}
use mathlib.Core.Logic.{⊎_elim}
use native.Mathlib.Nat.{eq-or-lt_of_le, le_of_suc-le-suc}
use native.Mathlib.Omega.{arith}
use lib.Dec.{leb, eqb}
use lib.ListN.{length, get_or}
use lib.Seq.{get_or-set_same, get_or-set_other}
use borrow.Author.Tests.{eqb-false, ne_eqb}
use Rattle.lists.specs.Bits.{bit}
use Rattle.lists.specs.Counting.{truth}
use Rattle.lists.proofs.Digits.{bit-of-sum, no-bit-of-sum}
use Rattle.lists.proofs.SumOver.{sum-over-alike}
use Rattle.ordering.specs.Distinct.{distinct}
use Rattle.ordering.specs.Inputs.{Input, no_input}
use Rattle.ordering.proofs.Sets.{distinct-every}
use Rattle.rules.specs.Limits.{most_gates, never}
use Rattle.study.specs.declared.Gate.{Gate}
use Rattle.study.specs.declared.Study.{Study}
use Rattle.study.specs.Joint.{state_counts}
use Rattle.study.specs.Places.{no_gate, gate_at, load_at}
use Rattle.gate_order.specs.Inputs.{gate_inputs_of}
use Rattle.gate_order.proofs.Kept.{gate-inputs-as-row}
use Rattle.soundness.proofs.Ranges.{gates-most, input-lower}
use Rattle.entries.specs.Entries.{class_borne}
use Rattle.entries.proofs.Entries.{entries-long}
use Rattle.paths.specs.Words.{fits}
use Rattle.fault_tree.specs.Truth.{true_once, true_tests, true_gates, gate_true, with_truth, gate_truths}
use Rattle.fault_tree.proofs.GateTruths.{truths-long}
use Rattle.fault_tree.specs.Classes.{lost, class_by, class_of}
use Rattle.rules.specs.Table.{item_fault}
use Rattle.rules.proofs.Kept.{list-kept}
use Rattle.rules.proofs.Rows.{item-kept}
use Rattle.joint_states.specs.JointStates.{JointState}
use Rattle.answers.specs.Told.{pair_values}
use Rattle.probability.proofs.Exact.{exact-alike}
use Rattle.accuracy.specs.Accuracy.{exact_of}
use Rattle.study_model.specs.Model.{probabilities_of}
use Rattle.drawn_tree.proofs.Judged.{no-load-beyond}
use Rattle.drawn_tree.proofs.Leaves.{one-leaf-each}
use Rattle.meaning.specs.Meaning.{Meaning, by_gates, by_tree, meaning_fault, class_meant, model_of}
use Rattle.path_calls.specs.Listing.{buffer_listed}
use Rattle.demands.specs.Calls.{list_paths, load_bounds}
use Rattle.demands.specs.Demand2.{LossesMeant}
use Rattle.demands.specs.Losses.{is_true, GatesAgree, LossGateTrue, LostIff, Tells, DrawnLostIff, ListedLosses, SaysLoss}
use Rattle.demands.specs.Listed.{paths_in}
use Rattle.demands.specs.Within.{exact_lost, LossesWithinOf}
use Rattle.demands.proofs.Bounds.{load-bounds-answered}
use Rattle.demands.proofs.Finished.{finished}
use Rattle.demands.proofs.Paths.{one-path}
use Rattle.lists.proofs.Those.{only_one}

-- ---- the truths of gates

-- a gate is as true by two accounts that agree on its gate inputs
inputs-alike : (g : Gate) (x : List ℕ) (holds also : ℕ → Bool) → ((j : ℕ) → j < g.gates → holds (get_or g.input j 0) ≡ also (get_or g.input j 0))
    → gate_true g x holds ≡ gate_true g x also
unfolding gate_true true_gates true_once
inputs-alike g x holds also same =
    let counted : Input → ℕ = λ a. truth (holds a.number) in
    let recounted : Input → ℕ = λ a. truth (also a.number) in
    let agree : Input → Type 0 = λ a. counted a ≡ recounted a in
    let each = distinct-every agree (gate_inputs_of g) (gate-inputs-as-row agree g (λ j below. ap truth (same j below))) in
    ap (λ (n : ℕ). leb g.threshold (true_tests g x + n))
    (sum-over-alike counted recounted no_input (distinct (gate_inputs_of g)) each)

module _ (gates : List Gate) (x : List ℕ) where
  -- gate k is true when the first n gates are evaluated
  abbrev true_by : ℕ → ℕ → Bool
  true_by n k = get_or (gate_truths gates x n) k false

  -- a gate's truth is set from those below it
  truth-set : (i : ℕ) → i < most_gates → true_by (suc i) i ≡ gate_true (get_or gates i no_gate) x (true_by i)
  unfolding gate_truths with_truth
  truth-set i h = get_or-set_same (gate_truths gates x i) i (gate_true (get_or gates i no_gate) x (true_by i)) false (omega (arith, truths-long gates x i))

  -- and stays
  truth-stays : (m n k : ℕ) → k < m → m ≤ n → true_by n k ≡ true_by m k
  unfolding gate_truths with_truth
  truth-stays m zero k h most = absurd (omega arith)
  truth-stays m (suc n) k h most =
      ⊎_elim (λ (last : m ≡ suc n). rw last refl)
      (λ (more : m < suc n).
      get_or-set_other (gate_truths gates x n) n k (gate_true (get_or gates n no_gate) x (true_by n)) false (λ same. omega arith)
      ∙ truth-stays m n k h (le_of_suc-le-suc more))
      (eq-or-lt_of_le most)

pub gates-agree : GatesAgree
gates-agree t s x i h =
    truth-stays t.gate x (suc i) t.gates i (omega arith) h
    ∙ truth-set t.gate x i (omega (arith, gates-most t s))
    ∙ inputs-alike (gate_at t i) x (true_by t.gate x i) (is_true t x)
    (λ j less. sym (truth-stays t.gate x i t.gates (get_or (gate_at t i).input j 0) (input-lower t s i h j less) (omega arith)))

-- ---- the bits of a class

module _ (t : Study) (x : List ℕ) where
  -- load j is lost
  abbrev is_lost : ℕ → Bool
  is_lost j = lost (gate_truths t.gate x t.gates) (load_at t j)

  class-bit : (j : ℕ) → j < t.loads → bit (class_of t x) j ≡ is_lost j
  unfolding class_of class_by
  class-bit j h = bit-of-sum is_lost t.loads j h

  no-class-bit : (j : ℕ) → t.loads ≤ j → bit (class_of t x) j ≡ false
  unfolding class_of class_by
  no-class-bit j h = no-bit-of-sum is_lost t.loads j h

  lost-gate : (j : ℕ) → is_lost j ≡ true → LossGateTrue t x j
  unfolding lost
  lost-gate j e = go (eqb (load_at t j).gate never) refl
    where
      go : (b : Bool) → eqb (load_at t j).gate never ≡ b → LossGateTrue t x j
      go true none = absurd (false≢true (rw none at e))
      go false some = record { has_gate = eqb-false (load_at t j).gate never some; holds = rw some at e }

  gate-lost : (j : ℕ) → LossGateTrue t x j → is_lost j ≡ true
  unfolding lost
  gate-lost j g = rw (ne_eqb (load_at t j).gate never g.has_gate) g.holds

pub lost-iff : LostIff
lost-iff t x =
    record {
      lost = λ j h stands. lost-gate t x j (sym (class-bit t x j h) ∙ stands);
      stands = λ j h g. class-bit t x j h ∙ gate-lost t x j g;
      lacks = λ j h. no-class-bit t x j h;
    }

-- ---- the leaf of a drawn tree

pub drawn-lost-iff : DrawnLostIff
unfolding model_of
drawn-lost-iff t tree x kept joint =
    record {
      leaf = one-leaf-each (state_counts t) t.loads tree x kept joint;
      lacks = no-load-beyond (state_counts t) t.loads tree x;
    }

-- ---- the classes on a list

-- the class of a joint state tells what it loses, under a meaning that is not refused
class-tells : (m : Meaning) (t : Study) (x : List ℕ) → meaning_fault m t ≡ 0 → JointState (state_counts t) x → Tells m t x (class_meant m t x)
unfolding model_of
class-tells by_gates t x kept joint = lost-iff t x
class-tells (by_tree tree) t x kept joint = drawn-lost-iff t tree x kept joint

pub listed-losses : ListedLosses
listed-losses m t d p answer i h x j fits-path =
    let done = finished (list_paths m d) t (p ∷ []) answer in
    let kept = (list-kept (meaning_fault m t) _ done.none_behind).left in
    let one = one-path m t d p answer x j in
    let inside : i < length (paths_in m t d p) = omega (arith, entries-long (length (state_counts t)) p (buffer_listed m t d)) in
    let is = only_one (fits x) [] (paths_in m t d p) one.path one.only i inside fits-path in
    subst (Tells m t x) (sym (ap (class_borne (length (state_counts t))) is ∙ one.bears)) (class-tells m t x kept j)

-- ---- over what the loss gate or the leaf says

-- two truth values, each true where the other is
both_ways : (a b : Bool) → (a ≡ true → b ≡ true) → (b ≡ true → a ≡ true) → a ≡ b
both_ways true b there back = sym (there refl)
both_ways false true there back = back refl
both_ways false false there back = refl

-- a test that says whether a load is lost agrees with its bit in the class
says-bit : (m : Meaning) (t : Study) (j : ℕ) (test : List ℕ → Bool) → j < t.loads → meaning_fault m t ≡ 0 → SaysLoss m t j test
    → (x : List ℕ) → JointState (state_counts t) x → bit (class_meant m t x) j ≡ test x
unfolding model_of
says-bit by_gates t j test inside kept says x joint =
    let class = lost-iff t x in
    both_ways _ (test x) (λ stands. (says x joint).stands (class.lost j inside stands)) (λ told. class.stands j inside ((says x joint).lost told))
says-bit (by_tree tree) t j test inside kept says x joint =
    let leaf = (drawn-lost-iff t tree x kept joint).leaf in
    sym (says x joint leaf.branch _ leaf.reaches)

-- so both are over the same joint states
exactly-lost : (m : Meaning) (t : Study) (j : ℕ) → j < t.loads → meaning_fault m t ≡ 0 → (test : List ℕ → Bool) → SaysLoss m t j test
    → exact_lost (model_of m t) j ≡ exact_of (model_of m t) test
unfolding model_of
exactly-lost m t j inside kept test says =
    exact-alike (probabilities_of t) (state_counts t) (λ (x : List ℕ). bit (class_meant m t x) j) test (says-bit m t j test inside kept says)

pub losses-meant : LossesMeant
losses-meant =
    record {
      exactly = exactly-lost;
      within =
          λ m t j pair told test says.
          let behind = list-kept (item_fault t.loads j) _ (finished (load_bounds m j) t (pair_values pair) told).none_behind in
          let inside = item-kept t.loads j behind.left in
          let kept = (list-kept (meaning_fault m t) [] behind.right).left in
          subst (LossesWithinOf (model_of m t) j pair.lower pair.upper) (exactly-lost m t j inside kept test says)
          (load-bounds-answered m t j pair told);
    }

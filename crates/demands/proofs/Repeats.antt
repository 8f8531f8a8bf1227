-- A repeated input counts once. What carries it: what is added up over the distinct inputs of a row goes by its set (`distinct-by-set`), the truths go by the
-- gates, and the model by the truths.
use Prim.Native.Nat.{ℕ, zero, suc, ◌+◌, ◌<◌}
use mathlib.Core.Path.{◌≡◌, refl, ap, ap₂, ◌∙◌}
use mathlib.Core.Bool.{Bool, false}
use mathlib.Core.List.{List, map}
use native.Mathlib.Omega.{arith}
use lib.Dec.{leb}
use lib.ListN.{get_or, take, set}
use Rattle.lists.specs.Counting.{truth}
use Rattle.ordering.specs.Distinct.{SameSet}
use Rattle.ordering.specs.Inputs.{Input}
use Rattle.ordering.proofs.Sets.{distinct-by-set, distinct-by-set-alone}
use Rattle.ordering.proofs.Sorted.{alike-long}
use Rattle.study.specs.declared.Gate.{Gate}
use Rattle.study.specs.declared.Study.{Study}
use Rattle.study.specs.Joint.{states}
use Rattle.study.specs.Places.{no_gate}
use Rattle.gate_order.specs.Inputs.{tests_of, gate_inputs_of, input_count}
use Rattle.fault_tree.specs.Truth.{test_true, true_once, true_tests, true_gates, gate_true, with_truth, gate_truths}
use Rattle.fault_tree.specs.Classes.{class_by, class_of}
use Rattle.study_model.specs.Model.{state_probabilities}
use Rattle.meaning.specs.Meaning.{by_gates, model_of}
use Rattle.demands.specs.Repeats.{SameVote, SameButRepeats, RepeatsCountOnce}

-- ---- a gate

true-once : (is_true : Input → Bool) (row other : List Input) → SameSet row other → true_once is_true row ≡ true_once is_true other
unfolding true_once
true-once is_true row other set = distinct-by-set (λ (a : Input). truth (is_true a)) row other set

true-together : (g h : Gate) → SameVote g h → (x : List ℕ) (holds : ℕ → Bool) → gate_true g x holds ≡ gate_true h x holds
unfolding gate_true true_tests true_gates
true-together g h same x holds =
    ap₂ leb same.threshold
    (ap₂ (λ (m n : ℕ). m + n)
    (true-once (test_true x) (tests_of g) (tests_of h) same.tests)
    (true-once (λ (a : Input). holds a.number) (gate_inputs_of g) (gate_inputs_of h) same.gate_inputs))

one-count : (g h : Gate) → SameVote g h → input_count g ≡ input_count h
unfolding input_count
one-count g h same =
    ap₂ (λ (m n : ℕ). m + n)
    (alike-long _ _ (distinct-by-set-alone (tests_of g) (tests_of h) same.tests))
    (alike-long _ _ (distinct-by-set-alone (gate_inputs_of g) (gate_inputs_of h) same.gate_inputs))

-- ---- a study

-- gates that are true together, each whatever the gates below it hold, have the same truths
truths-same : (gates others : List Gate) (x : List ℕ) (n : ℕ)
    → ((i : ℕ) → i < n → (holds : ℕ → Bool) → gate_true (get_or gates i no_gate) x holds ≡ gate_true (get_or others i no_gate) x holds)
    → gate_truths gates x n ≡ gate_truths others x n
unfolding gate_truths with_truth
truths-same gates others x zero together = refl
truths-same gates others x (suc n) together =
    let before = truths-same gates others x n (λ i below. together i (omega arith)) in
    ap (λ (truths : List Bool). set truths n (gate_true (get_or gates n no_gate) x (λ (k : ℕ). get_or truths k false))) before
    ∙ ap (λ (b : Bool). set (gate_truths others x n) n b) (together n (omega arith) (λ (k : ℕ). get_or (gate_truths others x n) k false))

module _ (t u : Study) (same : SameButRepeats t u) where
  one_truth : (x : List ℕ) → gate_truths t.gate x t.gates ≡ gate_truths u.gate x u.gates
  one_truth x =
      truths-same t.gate u.gate x t.gates (λ i used. true-together _ _ (same.gate i used) x) ∙ ap (gate_truths u.gate x) same.gates

  -- the class goes by the truths
  one-model : model_of by_gates t ≡ model_of by_gates u
  unfolding model_of class_of
  one-model =
      λ i.
      record {
        counts = take (same.components i) (states (same.component i));
        probabilities = map state_probabilities (take (same.components i) (same.component i));
        class = λ x. class_by (one_truth x i) (same.load i) (same.loads i);
        loads = take (same.loads i) (same.load i);
      }

pub repeats-count-once : RepeatsCountOnce
repeats-count-once = record { gate = true-together; count = one-count; truths = one_truth; model = one-model }

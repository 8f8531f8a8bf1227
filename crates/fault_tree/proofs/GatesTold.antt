-- The truth that a gate without repeats tells, place by place: that of its gate, whose distinct inputs it holds. And what carries the loop that finds
-- these gates.
use Rattle.std.proofs.Common.{ℕ, ◌+◌, ◌<◌, ◌≡◌, refl, sym, ap, ap₂, subst, ◌∙◌, Bool, true, false, List, length, get_or, set, eqb-true, arith}
use Rattle.std.proofs.lemmas.List.{get_or-set_same, get_or-set_other}
use lib.Dec.{eqb, leb}
use borrow.Author.Tests.{eqb-false}
use Rattle.lists.specs.Counting.{truth, count_true, sum_over}
use Rattle.ordering.specs.Inputs.{Input}
use Rattle.study.specs.declared.Gate.{Gate}
use Rattle.study.specs.Places.{no_gate, ShapedGate}
use Rattle.gate_order.specs.Rows.{distinct_gate}
use Rattle.gate_order.proofs.Distinct.{tests-distinct, gate-inputs-distinct, distinct-fits}
use Rattle.gate_order.proofs.InOrder.{Fits}
use Rattle.gate_order.proofs.Summed.{tests-summed, gate-inputs-summed}
use Rattle.fault_tree.specs.Told.{OnceEach, tests_told, inputs_told, gate_told}
use Rattle.fault_tree.specs.Truth.{test_true, true_once, true_tests, true_gates, gate_true}

module _ (g : Gate) (fits : Fits g) where
  tests-are : (x : List ℕ) → tests_told (distinct_gate g) x ≡ true_tests g x
  unfolding tests_told true_tests true_once count_true
  tests-are x =
      let is_true : Input → ℕ = λ a. truth (test_true x a) in
      tests-summed is_true (distinct_gate g) (distinct-fits g fits) ∙ ap (sum_over is_true) (tests-distinct g fits)

  inputs-are : (holds : ℕ → Bool) → inputs_told (distinct_gate g) holds ≡ true_gates g holds
  unfolding inputs_told true_gates true_once count_true
  inputs-are holds =
      let is_true : Input → ℕ = λ a. truth (holds a.number) in
      gate-inputs-summed is_true (distinct_gate g) (distinct-fits g fits) ∙ ap (sum_over is_true) (gate-inputs-distinct g fits)

  pub gate-told : (x : List ℕ) (holds : ℕ → Bool) → gate_told (distinct_gate g) x holds ≡ gate_true g x holds
  unfolding gate_told gate_true distinct_gate
  gate-told x holds = ap (leb g.threshold) (ap₂ (λ (m n : ℕ). m + n) (tests-are x) (inputs-are holds))

-- ---- finding these gates

-- one more is found
pub once-more : {gates once : List Gate} {i : ℕ} {g : Gate} → OnceEach gates i once → i < length once → ShapedGate (get_or gates i no_gate)
    → g ≡ distinct_gate (get_or gates i no_gate) → OnceEach gates (i + 1) (set once i g)
once-more {gates} {once} {i} {g} before inside shaped is =
    record { shaped = λ k less. shaped-at k less (eqb k i) refl; each = λ k less. each-at k less (eqb k i) refl }
  where
    shaped-at : (k : ℕ) → k < i + 1 → (b : Bool) → eqb k i ≡ b → ShapedGate (get_or gates k no_gate)
    shaped-at k less true same = subst (λ (j : ℕ). ShapedGate (get_or gates j no_gate)) (sym (eqb-true k i same)) shaped
    shaped-at k less false other = before.shaped k (omega (arith, less, eqb-false k i other))

    each-at : (k : ℕ) → k < i + 1 → (b : Bool) → eqb k i ≡ b → get_or (set once i g) k no_gate ≡ distinct_gate (get_or gates k no_gate)
    each-at k less true same = rw (eqb-true k i same) (get_or-set_same once i g no_gate inside ∙ is)
    each-at k less false other = get_or-set_other once i k g no_gate (eqb-false k i other) ∙ before.each k (omega (arith, less, eqb-false k i other))

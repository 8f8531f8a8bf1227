-- When the gates of a fault tree are true in a joint state.
use Rattle.std.specs.Prelude.{ℕ, zero, suc, ◌+◌, Bool, false, List, leb, get_or, replicate, set}
use Rattle.lists.specs.Bits.{bit}
use Rattle.lists.specs.Counting.{truth, sum_over}
use Rattle.ordering.specs.Distinct.{distinct}
use Rattle.ordering.specs.Inputs.{Input}
use Rattle.rules.specs.Limits.{most_gates}
use Rattle.study.specs.declared.Gate.{Gate}
use Rattle.study.specs.Places.{no_gate}
use Rattle.gate_order.specs.Inputs.{tests_of, gate_inputs_of}

-- a test is true in joint state x: its mask has the bit of the state that its component is in
abbrev pub test_true : List ℕ → Input → Bool
test_true x a = bit a.mask (get_or x a.number 0)

-- how many inputs of a row are true, each counted once however often it stands there
unfoldable pub true_once : (Input → Bool) → List Input → ℕ
unfolding distinct sum_over
true_once is_true row = sum_over (λ (a : Input). truth (is_true a)) (distinct row)

-- the tests that are true
unfoldable pub true_tests : Gate → List ℕ → ℕ
unfolding true_once
true_tests g x = true_once (test_true x) (tests_of g)

-- the gate inputs that are true, where `holds` says which gates are
unfoldable pub true_gates : Gate → (ℕ → Bool) → ℕ
unfolding true_once
true_gates g holds = true_once (λ (a : Input). holds a.number) (gate_inputs_of g)

-- a gate is true when its distinct inputs that are true, tests and gates together, reach its threshold
unfoldable pub gate_true : Gate → List ℕ → (ℕ → Bool) → Bool
unfolding true_tests true_gates
gate_true g x holds = leb g.threshold (true_tests g x + true_gates g holds)

-- the truths of the gates before gate i, and that of gate i with them
unfoldable pub with_truth : List Gate → List ℕ → ℕ → List Bool → List Bool
unfolding gate_true
with_truth gates x i truths = set truths i (gate_true (get_or gates i no_gate) x (λ (k : ℕ). get_or truths k false))

-- the truths of the first n gates in order, at the places of all
unfoldable pub gate_truths : List Gate → List ℕ → ℕ → List Bool
unfolding with_truth
gate_truths gates x zero = replicate most_gates false
gate_truths gates x (suc i) = with_truth gates x i (gate_truths gates x i)

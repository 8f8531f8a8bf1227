-- A repeated input counts once: how a gate votes goes by its threshold and the set of its inputs alone.
use Rattle.std.specs.Prelude.{ℕ, ◌<◌, ◌≡◌, Bool, List}
use Rattle.ordering.specs.Distinct.{SameSet}
use Rattle.study.specs.declared.Gate.{Gate}
use Rattle.study.specs.declared.Study.{Study}
use Rattle.study.specs.Places.{gate_at}
use Rattle.gate_order.specs.Inputs.{tests_of, gate_inputs_of, input_count}
use Rattle.fault_tree.specs.Truth.{gate_true, gate_truths}
use Rattle.meaning.specs.Meaning.{by_gates, model_of}

-- two gates have one threshold and one set of inputs, whatever repeats either holds, and in whatever order
pub record SameVote (g h : Gate) : Type 0 where
  pub threshold : g.threshold ≡ h.threshold
  pub tests : SameSet (tests_of g) (tests_of h)
  pub gate_inputs : SameSet (gate_inputs_of g) (gate_inputs_of h)

-- two studies are the same but for the order and the repeats of inputs within their gates
pub record SameButRepeats (t u : Study) : Type 0 where
  pub components : t.components ≡ u.components
  pub gates : t.gates ≡ u.gates
  pub loads : t.loads ≡ u.loads
  pub component : t.component ≡ u.component
  pub load : t.load ≡ u.load
  pub gate : (i : ℕ) → i < t.gates → SameVote (gate_at t i) (gate_at u i)

-- Such gates are true in the same joint states, whatever the gates below them hold, and their thresholds are judged by one number (12). So such studies have
-- one truth for each gate in every joint state, and one model, from which the list, the bounds, the figures and the report follow.
pub record RepeatsCountOnce : Type 0 where
  pub gate : (g h : Gate) → SameVote g h → (x : List ℕ) (holds : ℕ → Bool) → gate_true g x holds ≡ gate_true h x holds
  pub count : (g h : Gate) → SameVote g h → input_count g ≡ input_count h
  pub truths : (t u : Study) → SameButRepeats t u → (x : List ℕ) → gate_truths t.gate x t.gates ≡ gate_truths u.gate x u.gates
  pub model : (t u : Study) → SameButRepeats t u → model_of by_gates t ≡ model_of by_gates u

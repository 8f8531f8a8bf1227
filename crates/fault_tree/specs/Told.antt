-- The truth of a gate as the code tells it, place by place: of a gate without repeats, whose inputs are distinct as
-- they stand. Only the code needs these.
use Rattle.std.specs.Prelude.{ℕ, ◌+◌, ◌<◌, ◌≡◌, Bool, List, leb, get_or}
use Rattle.lists.specs.Bits.{bit}
use Rattle.lists.specs.Counting.{count_true}
use Rattle.study.specs.declared.Gate.{Gate}
use Rattle.study.specs.Places.{no_gate, ShapedGate}
use Rattle.gate_order.specs.Rows.{distinct_gate}

-- the true tests of a gate in joint state x
unfoldable pub tests_told : Gate → List ℕ → ℕ
unfolding count_true
tests_told g x = count_true (λ (j : ℕ). bit (get_or g.mask j 0) (get_or x (get_or g.component j 0) 0)) g.tests

-- its true gate inputs, where `holds` says which gates are true
unfoldable pub inputs_told : Gate → (ℕ → Bool) → ℕ
unfolding count_true
inputs_told g holds = count_true (λ (j : ℕ). holds (get_or g.input j 0)) g.gates

-- whether at least the threshold of its inputs are true
unfoldable pub gate_told : Gate → List ℕ → (ℕ → Bool) → Bool
unfolding tests_told inputs_told
gate_told g x holds = leb g.threshold (tests_told g x + inputs_told g holds)

-- the first n gates, each with its distinct inputs alone
pub record OnceEach (gates : List Gate) (n : ℕ) (once : List Gate) : Type 0 where
  pub shaped : (i : ℕ) → i < n → ShapedGate (get_or gates i no_gate)
  pub each : (i : ℕ) → i < n → get_or once i no_gate ≡ distinct_gate (get_or gates i no_gate)

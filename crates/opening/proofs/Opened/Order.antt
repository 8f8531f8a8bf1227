-- A study that keeps every rule but the order of inputs is sound once they are put in order. What carries it: a rule of each input holds of each still
-- (`Kept` of `gate_order`), and what stands behind the inputs stays.
use Prim.Native.Nat.{ℕ, ◌<◌, ◌≤◌}
use mathlib.Core.Path.{◌≡◌, sym, ap, subst, ◌∙◌}
use mathlib.Core.List.{List}
use native.Mathlib.Decide.{dec_lt}
use native.Mathlib.Omega.{arith}
use lib.ListN.{length, get_or, length-map}
use Rattle.lists.proofs.Maps.{get_or-map-inside}
use Rattle.ordering.specs.Inputs.{Input}
use Rattle.rules.specs.Limits.{most_gates, most_tests, most_gate_inputs}
use Rattle.rules.specs.Table.{no_component_fault, mask_fault, ahead_fault, threshold_fault}
use Rattle.rules.proofs.Rows.{input-count-kept}
use Rattle.study.specs.declared.Gate.{Gate}
use Rattle.study.specs.declared.Study.{Study}
use Rattle.study.specs.Joint.{state_counts}
use Rattle.study.specs.Places.{Shaped, ShapedGate, no_gate, gate_at}
use Rattle.gate_order.specs.Order.{InOrder, in_order, ordered}
use Rattle.gate_order.proofs.InOrder.{Fits, count-in-order, in-order-ordered, in-order-shaped}
use Rattle.gate_order.proofs.Kept.{tests-every, gate-inputs-every, component-behind, mask-behind, input-behind}
use Rattle.soundness.specs.Sound.{ZeroBehind, SoundGate, UnusedGate}
use Rattle.opening.proofs.Opened.Gate.{WholeGate}

-- ---- a gate

-- a test keeps its rules
record TestKept (counts : List ℕ) (a : Input) : Type 0 where
  component : no_component_fault (length counts) a.number ≡ 0
  mask : mask_fault (get_or counts a.number 0) a.mask ≡ 0

behind-ordered : (g : Gate) → Fits g → ZeroBehind g → ZeroBehind (in_order g)
unfolding in_order
behind-ordered g fits behind =
    record {
      component = λ j from less. component-behind g fits j from ∙ behind.component j from less;
      mask = λ j from less. mask-behind g fits j from ∙ behind.mask j from less;
      input = λ j from less. input-behind g fits j from ∙ behind.input j from less;
    }

gate-ordered : (counts : List ℕ) (i : ℕ) (g : Gate) → Fits g → SoundGate counts i g → SoundGate counts i (in_order g)
unfolding in_order
gate-ordered counts i g fits s =
    let tests = tests-every (TestKept counts) g fits (λ j below. record { component = s.component j below; mask = s.mask j below }) in
    record {
      tests = s.tests;
      gates = s.gates;
      component = λ j below. (tests j below).component;
      mask = λ j below. (tests j below).mask;
      input = gate-inputs-every (λ (a : Input). ahead_fault i a.number ≡ 0) g fits s.input;
      threshold = ap (λ (n : ℕ). threshold_fault n g.threshold) (count-in-order g fits.shaped) ∙ s.threshold;
      behind = behind-ordered g fits s.behind;
    }

unused-ordered : (g : Gate) → Fits g → UnusedGate g → UnusedGate (in_order g)
unfolding in_order
unused-ordered g fits u = record { threshold = u.threshold; tests = u.tests; gates = u.gates; behind = behind-ordered g fits u.behind }

-- a gate that keeps its rules has no more inputs than places, nor has one that no record uses
used-fits : (counts : List ℕ) (i : ℕ) (g : Gate) → WholeGate (SoundGate counts i) g → Fits g
used-fits counts i g w =
    record {
      shaped = w.shaped;
      tests = input-count-kept most_tests g.tests w.kept.tests;
      gates = input-count-kept most_gate_inputs g.gates w.kept.gates;
    }

unused-fits : (g : Gate) → WholeGate UnusedGate g → Fits g
unused-fits g w = record { shaped = w.shaped; tests = omega (arith, w.kept.tests); gates = omega (arith, w.kept.gates) }

-- ---- a study as the bytes give it

pub record Given (t : Study) : Type 0 where
  pub shaped : Shaped t
  pub gate : (i : ℕ) → i < t.gates → SoundGate (state_counts t) i (gate_at t i)
  pub no_gate_behind : (i : ℕ) → t.gates ≤ i → i < most_gates → UnusedGate (gate_at t i)

module _ (t : Study) (given : Given t) where
  -- whether a record uses a gate or not
  pub gate-fits : (i : ℕ) → i < most_gates → Fits (gate_at t i)
  gate-fits i inside = go (dec_lt i t.gates)
    where
      go : Dec (i < t.gates) → Fits (gate_at t i)
      go (yes used) = used-fits (state_counts t) i (gate_at t i) (record { kept = given.gate i used; shaped = given.shaped.gate i inside })
      go (no unused) = unused-fits (gate_at t i) (record { kept = given.no_gate_behind i (omega arith) inside; shaped = given.shaped.gate i inside })

  -- what stands at a gate's place then
  pub ordered-gate : (i : ℕ) → i < most_gates → gate_at (ordered t) i ≡ in_order (gate_at t i)
  unfolding ordered
  ordered-gate i inside = get_or-map-inside in_order t.gate i no_gate no_gate (omega (arith, given.shaped.gates))

  pub ordered-rules : (i : ℕ) → i < t.gates → i < most_gates → SoundGate (state_counts t) i (gate_at (ordered t) i)
  ordered-rules i used inside =
      subst (SoundGate (state_counts t) i) (sym (ordered-gate i inside)) (gate-ordered (state_counts t) i (gate_at t i) (gate-fits i inside) (given.gate i used))

  pub ordered-order : (i : ℕ) → i < most_gates → InOrder (gate_at (ordered t) i)
  ordered-order i inside = subst InOrder (sym (ordered-gate i inside)) (in-order-ordered (gate_at t i) (given.shaped.gate i inside))

  pub ordered-unused : (i : ℕ) → t.gates ≤ i → i < most_gates → UnusedGate (gate_at (ordered t) i)
  ordered-unused i from inside =
      subst UnusedGate (sym (ordered-gate i inside)) (unused-ordered (gate_at t i) (gate-fits i inside) (given.no_gate_behind i from inside))

  pub ordered-shaped : Shaped (ordered t)
  unfolding ordered
  ordered-shaped =
      record {
        components = given.shaped.components;
        gates = length-map t.gate in_order ∙ given.shaped.gates;
        loads = given.shaped.loads;
        gate = λ i inside. subst ShapedGate (sym (ordered-gate i inside)) (in-order-shaped (gate_at t i) (given.shaped.gate i inside));
      }

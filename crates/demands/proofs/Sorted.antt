-- Opening sorts: it keeps the inputs of each gate, they stand in order, and no other study is both. What carries it: opening answers the study of the bytes put
-- in order, sorting keeps a row's inputs, and a row in order is told by its inputs.
use Prim.Native.Nat.{ℕ, ◌-◌, ◌^◌, ◌<◌, ◌≤◌}
use mathlib.Core.Path.{◌≡◌, refl, sym, ap, subst, ◌∙◌}
use mathlib.Core.List.{List}
use native.Mathlib.Decide.{dec_lt}
use native.Mathlib.Omega.{arith}
use lib.ListN.{get_or}
use lib.Pow.{pow_mono}
use lib.Seq.{ext_get_or}
use Rattle.lists.proofs.Elements.{Every}
use Rattle.ordering.specs.Inputs.{no_input, ByteMask}
use Rattle.ordering.proofs.Unique.{alike-bytes, ascending-same}
use Rattle.rules.specs.Limits.{most_gates, most_states}
use Rattle.rules.proofs.Kept.{range-kept}
use Rattle.study.specs.declared.Gate.{Gate}
use Rattle.study.specs.declared.Study.{Study}
use Rattle.study.specs.Joint.{state_counts}
use Rattle.study.specs.Places.{Shaped, no_gate, gate_at}
use Rattle.gate_order.specs.Inputs.{tests_of, gate_inputs_of}
use Rattle.gate_order.specs.Order.{InOrder, in_order, ordered}
use Rattle.gate_order.proofs.Checked.{none-ordered}
use Rattle.gate_order.proofs.InOrder.{Fits, unmasked-none, tests-long, tests-alike, gate-inputs-alike}
use Rattle.gate_order.proofs.Kept.{test_at_lem}
use Rattle.soundness.specs.Sound.{ZeroBehind, Sound}
use Rattle.soundness.proofs.Ranges.{counts-few, count_most, test-component}
use Rattle.opening.specs.Laws.{IsOpened}
use Rattle.opening.specs.Opening.{as_given, opened}
use Rattle.opening.proofs.Opened.Order.{Given, gate-fits, ordered-gate}
use Rattle.opening.proofs.Opened.Study.{opened-sound, opened-shaped, opened-given, opened-ordered}
use Rattle.demands.specs.Saving.{SameInputs, SameButOrder, AllInOrder, OpenedSorted}
use Rattle.demands.proofs.Reached.{reached-shaped}
use Rattle.demands.proofs.SameGates.{same-gate}

-- ---- the same inputs

pub inputs-sym : {g h : Gate} → SameInputs g h → SameInputs h g
inputs-sym s =
    record {
      threshold = sym s.threshold;
      tests = sym s.tests;
      gates = sym s.gates;
      same_tests = λ f. sym (s.same_tests f);
      same_gate_inputs = λ f. sym (s.same_gate_inputs f);
    }

pub inputs-trans : {g h k : Gate} → SameInputs g h → SameInputs h k → SameInputs g k
inputs-trans s r =
    record {
      threshold = s.threshold ∙ r.threshold;
      tests = s.tests ∙ r.tests;
      gates = s.gates ∙ r.gates;
      same_tests = λ f. s.same_tests f ∙ r.same_tests f;
      same_gate_inputs = λ f. s.same_gate_inputs f ∙ r.same_gate_inputs f;
    }

sorted-inputs : (g : Gate) → Fits g → SameInputs (in_order g) g
unfolding in_order
sorted-inputs g fits =
    record { threshold = refl; tests = refl; gates = refl; same_tests = tests-alike g fits.shaped; same_gate_inputs = gate-inputs-alike g fits.shaped }

-- the mask of a gate input is a byte
no-masks : (g : Gate) → Every ByteMask no_input (gate_inputs_of g)
no-masks g k h = let none = unmasked-none g.input g.gates k h in omega (arith, none)

-- ---- a sound study with all its places

-- it is one that bytes give
pub sound-given : (t : Study) → Sound t → Shaped t → Given t
sound-given t s shaped = record { shaped = shaped; gate = s.gate; no_gate_behind = s.no_gate_behind }

module _ (t : Study) (s : Sound t) (shaped : Shaped t) where
  pub sound-fits : (i : ℕ) → i < most_gates → Fits (gate_at t i)
  sound-fits = gate-fits t (sound-given t s shaped)

  zero-behind : (i : ℕ) → i < most_gates → ZeroBehind (gate_at t i)
  zero-behind i inside = go (dec_lt i t.gates)
    where
      go : Dec (i < t.gates) → ZeroBehind (gate_at t i)
      go (yes used) = (s.gate i used).behind
      go (no unused) = (s.no_gate_behind i (omega arith) inside).behind

  -- each gate stands in order: one in use by its rule, and any other since it has no inputs
  gate-in-order : (i : ℕ) → i < most_gates → InOrder (gate_at t i)
  gate-in-order i inside = go (dec_lt i t.gates)
    where
      go : Dec (i < t.gates) → InOrder (gate_at t i)
      go (yes used) = s.order i used
      go (no unused) =
          let u = s.no_gate_behind i (omega arith) inside in
          none-ordered (gate_at t i) u.tests u.gates

  pub sound-in-order : AllInOrder t
  sound-in-order i inside = (gate-in-order i inside, zero-behind i inside)

  -- the mask of a test has a bit for each of four states at most
  mask-byte : (i : ℕ) → i < t.gates → (j : ℕ) → j < (gate_at t i).tests → get_or (gate_at t i).mask j 0 < 256
  mask-byte i used j below =
      let component = get_or (gate_at t i).component j 0 in
      let states = get_or (state_counts t) component 0 in
      let known : component < t.components = omega (arith, test-component t s i used j below, counts-few t s) in
      let most : 2 ^ states ≤ 2 ^ most_states = pow_mono (count_most t s component known) in
      let mask = (range-kept _ 1 (2 ^ states - 1) (get_or (gate_at t i).mask j 0) ((s.gate i used).mask j below)).most in
      omega (arith, most, mask)

  byte-masks : (i : ℕ) → i < most_gates → Every ByteMask no_input (tests_of (gate_at t i))
  byte-masks i inside k h = go (dec_lt i t.gates)
    where
      g : Gate
      g = gate_at t i

      fits : Fits g
      fits = sound-fits i inside

      below : k < g.tests
      below = omega (arith, h, tests-long g fits)

      go : Dec (i < t.gates) → ByteMask (get_or (tests_of g) k no_input)
      go (yes used) = subst ByteMask (sym (test_at_lem g fits k below)) (mask-byte i used k below)
      go (no unused) = absurd (omega (arith, below, (s.no_gate_behind i (omega arith) inside).tests))

  -- another study in order, that holds the same inputs, is this one
  module _ (order : AllInOrder t) (u : Study) (shaped' : Shaped u) (order' : AllInOrder u) where
    gate_same : (i : ℕ) → i < most_gates → SameInputs (gate_at u i) (gate_at t i) → gate_at u i ≡ gate_at t i
    gate_same i inside same =
        let g = gate_at u i in
        let h = gate_at t i in
        let fits' = sound-fits i inside in
        let fits : Fits g = record { shaped = shaped'.gate i inside; tests = rw same.tests fits'.tests; gates = rw same.gates fits'.gates } in
        let bytes = byte-masks i inside in
        let tests =
        ascending-same (tests_of g) (tests_of h) (order' i inside).0.tests (order i inside).0.tests
        (alike-bytes (tests_of g) (tests_of h) same.same_tests bytes) bytes same.same_tests in
        let inputs =
        ascending-same (gate_inputs_of g) (gate_inputs_of h) (order' i inside).0.gate_inputs (order i inside).0.gate_inputs
        (no-masks g) (no-masks h) same.same_gate_inputs in
        same-gate g h fits fits' (order' i inside).1 (order i inside).1 same.tests same.gates tests inputs same.threshold

    pub same_study : SameButOrder u t → u ≡ t
    same_study same =
        let gate =
        ext_get_or no_gate u.gate t.gate (shaped'.gates ∙ sym shaped.gates)
        (λ i h. let inside : i < most_gates = rw shaped'.gates at h in gate_same i inside (same.gate i inside)) in
        λ i.
        record {
          components = same.components i;
          gates = same.gates i;
          loads = same.loads i;
          component = same.component i;
          gate = gate i;
          load = same.load i;
        }

-- ---- opening

module _ (bytes : List ℕ) (done : IsOpened bytes) where
  given-fits : (i : ℕ) → i < most_gates → Fits (gate_at (as_given bytes) i)
  given-fits = gate-fits (as_given bytes) (opened-given bytes done)

  opened-gate : (i : ℕ) → i < most_gates → gate_at (opened bytes).study i ≡ in_order (gate_at (as_given bytes) i)
  opened-gate i inside = ap (λ (t : Study). gate_at t i) (opened-ordered bytes done) ∙ ordered-gate (as_given bytes) (opened-given bytes done) i inside

  pub opened-same : SameButOrder (opened bytes).study (as_given bytes)
  unfolding ordered
  opened-same =
      let is = opened-ordered bytes done in
      record {
        components = ap (λ (t : Study). t.components) is;
        gates = ap (λ (t : Study). t.gates) is;
        loads = ap (λ (t : Study). t.loads) is;
        component = ap (λ (t : Study). t.component) is;
        load = ap (λ (t : Study). t.load) is;
        gate =
            λ i inside.
            subst (λ (g : Gate). SameInputs g (gate_at (as_given bytes) i)) (sym (opened-gate i inside))
            (sorted-inputs (gate_at (as_given bytes) i) (given-fits i inside));
      }

  pub opened-in-order : AllInOrder (opened bytes).study
  opened-in-order = sound-in-order (opened bytes).study (opened-sound bytes done) (opened-shaped bytes)

-- two studies that are the same but for order as a third is
pub but-order-sym : {t u : Study} → SameButOrder t u → SameButOrder u t
but-order-sym s =
    record {
      components = sym s.components;
      gates = sym s.gates;
      loads = sym s.loads;
      component = sym s.component;
      load = sym s.load;
      gate = λ i inside. inputs-sym (s.gate i inside);
    }

pub but-order-trans : {t u v : Study} → SameButOrder t u → SameButOrder u v → SameButOrder t v
but-order-trans s r =
    record {
      components = s.components ∙ r.components;
      gates = s.gates ∙ r.gates;
      loads = s.loads ∙ r.loads;
      component = s.component ∙ r.component;
      load = s.load ∙ r.load;
      gate = λ i inside. inputs-trans (s.gate i inside) (r.gate i inside);
    }

-- no other study is in order and the same but for order, of any shape that a study can have
pub only-sorted : (bytes : List ℕ) → IsOpened bytes → (t : Study) → Shaped t → SameButOrder t (as_given bytes) → AllInOrder t → t ≡ (opened bytes).study
only-sorted bytes done t shaped same order =
    same_study (opened bytes).study (opened-sound bytes done) (opened-shaped bytes) (opened-in-order bytes done) t shaped order
    (but-order-trans same (but-order-sym (opened-same bytes done)))

pub opened-sorted : OpenedSorted
opened-sorted bytes done =
    record {
      same = opened-same bytes done;
      in_order = opened-in-order bytes done;
      no_other = λ t reached. only-sorted bytes done t (reached-shaped t reached);
    }

-- A gate record that is read is sound and has all its places. What carries it: tests and gate inputs fill their places from the front, each once, since
-- the map's bits are read upwards and only bits 0 to 2 stand.
use Prim.Native.Nat.{ℕ, ◌+◌, ◌^◌, ◌<◌, ◌≤◌}
use mathlib.Core.Path.{◌≡◌, refl, sym, subst}
use mathlib.Core.List.{List}
use native.Mathlib.Omega.{arith}
use lib.Dec.{eqb}
use lib.ListN.{length, get_or, set, replicate, get_or-replicate}
use lib.Seq.{get_or-set_same, get_or-set_other}
use borrow.Author.Count.{below_more}
use borrow.Author.Tests.{eqb-true, eqb-false}
use Rattle.lists.proofs.Filled.{Filled, filled_none, filled_more}
use Rattle.rules.specs.Breach.{unless_absent}
use Rattle.rules.specs.Limits.{gate_maps, most_tests, most_gate_inputs}
use Rattle.rules.specs.Table.{inputs_fault, no_component_fault, mask_fault, ahead_fault, threshold_fault}
use Rattle.rules.proofs.Kept.{absent_none, unless-none, range-kept}
use Rattle.reading.specs.Reader.{byte}
use Rattle.reading.proofs.Ends.{bit-meant}
use Rattle.reading.proofs.Held.{Gives, gives-any, gives_then, gives-judge, gives-judged, gives-return, gives-cond, gives-repeat, gives-fields, gives-weaker}
use Rattle.gate_record.specs.Gate.{threshold, inputs_byte, test, tests, input, inputs, gate_field, gate, with_tests, with_gates, with_test, with_input}
use Rattle.study.specs.declared.Gate.{Gate}
use Rattle.study.specs.Absent.{absent_gate}
use Rattle.gate_order.specs.Inputs.{input_count}
use Rattle.study.specs.Places.{ShapedGate}
use Rattle.study.specs.Zero.{zero_gate}
use Rattle.soundness.specs.Sound.{SoundGate}

-- a gate that keeps a rule, and has all its places
pub record WholeGate (Kept : Gate → Type 0) (g : Gate) : Type 0 where
  pub kept : Kept g
  pub shaped : ShapedGate g

abbrev IsZero : ℕ → Type 0
IsZero n = n ≡ 0

-- the first j tests stand in front
record TestsFilled (counts : List ℕ) (j : ℕ) (component mask : List ℕ) : Type 0 where
  components : Filled (λ (k n : ℕ). no_component_fault (length counts) n ≡ 0) IsZero 0 most_tests j component
  masks : Filled (λ (k n : ℕ). Unit {0}) IsZero 0 most_tests j mask
  fit : (k : ℕ) → k < j → mask_fault (get_or counts (get_or component k 0) 0) (get_or mask k 0) ≡ 0

tests-more : (counts : List ℕ) (j : ℕ) (component mask : List ℕ) (c m : ℕ) → TestsFilled counts j component mask → j < most_tests
    → no_component_fault (length counts) c ≡ 0 → mask_fault (get_or counts c 0) m ≡ 0 → TestsFilled counts (j + 1) (set component j c) (set mask j m)
tests-more counts j component mask c m f h known fits =
    record {
      components = filled_more f.components h known;
      masks = filled_more f.masks h tt;
      fit =
          below_more (λ k. mask_fault (get_or counts (get_or (set component j c) k 0) 0) (get_or (set mask j m) k 0) ≡ 0) j
          (λ k lower. rw (get_or-set_other component j k c 0 (λ same. omega arith), get_or-set_other mask j k m 0 (λ same. omega arith)) (f.fit k lower))
          (rw (get_or-set_same component j c 0 (omega (arith, f.components.long)), get_or-set_same mask j m 0 (omega (arith, f.masks.long))) fits);
    }

abbrev InputsFilled : ℕ → ℕ → List ℕ → Type 0
InputsFilled number j input = Filled (λ (k n : ℕ). ahead_fault number n ≡ 0) IsZero 0 most_gate_inputs j input

zero-places : (size k : ℕ) → k < size → ◌≡◌ {A = ℕ} (get_or (replicate size 0) k 0) 0
zero-places size k h = get_or-replicate size k 0 0 h

count-sound : (most : ℕ) → Gives (inputs_byte most) (λ (n : ℕ). inputs_fault most n ≡ 0)
unfolding inputs_byte
count-sound most = gives-judged byte (inputs_fault most) (λ n. n) (λ n kept. kept)

module _ (counts : List ℕ) (number : ℕ) where
  -- the rules of the tests, and of the gate inputs
  record TestsKept (tests : ℕ) (component mask : List ℕ) : Type 0 where
    count : unless_absent 0 tests (inputs_fault most_tests tests) ≡ 0
    filled : TestsFilled counts tests component mask

  record InputsKept (gates : ℕ) (input : List ℕ) : Type 0 where
    count : unless_absent 0 gates (inputs_fault most_gate_inputs gates) ≡ 0
    filled : InputsFilled number gates input

  -- The fields below bit k are read: all rules but that of the threshold are kept, and no field from bit k on is given.
  record FieldsSoFar (k tests : ℕ) (component mask : List ℕ) (gates : ℕ) (input : List ℕ) : Type 0 where
    tests_kept : TestsKept tests component mask
    inputs_kept : InputsKept gates input
    no_tests : k ≤ 1 → tests ≡ 0
    without_gates : k ≤ 2 → gates ≡ 0

  abbrev SoFar : ℕ → Gate → Type 0
  SoFar k g = FieldsSoFar k g.tests g.component g.mask g.gates g.input

  start : SoFar 0 absent_gate
  unfolding absent_gate zero_gate
  start =
      record {
        tests_kept =
            record {
              count = absent_none 0 (inputs_fault most_tests 0);
              filled =
                  record {
                    components = filled_none refl (zero-places most_tests);
                    masks = filled_none refl (zero-places most_tests);
                    fit = λ k h. absurd (omega arith);
                  };
            };
        inputs_kept = record { count = absent_none 0 (inputs_fault most_gate_inputs 0); filled = filled_none refl (zero-places most_gate_inputs) };
        no_tests = λ h. refl;
        without_gates = λ h. refl;
      }

  -- a bit that gives no inputs
  passed : (k : ℕ) (g : Gate) → SoFar k g → SoFar (k + 1) g
  passed k g s =
      record {
        tests_kept = s.tests_kept;
        inputs_kept = s.inputs_kept;
        no_tests = λ h. s.no_tests (omega arith);
        without_gates = λ h. s.without_gates (omega arith);
      }

  threshold-sound : (g : Gate) → SoFar 0 g → Gives (threshold g) (SoFar 1)
  unfolding threshold
  threshold-sound g s = gives_then (gives-any byte) (λ n u. gives-return (passed 0 g s))

  -- j of n tests are read, and no gate input
  record TestLoop (n j : ℕ) (g : Gate) : Type 0 where
    tests : g.tests ≡ n
    filled : TestsFilled counts j g.component g.mask
    inputs_kept : InputsKept g.gates g.input
    without_gates : g.gates ≡ 0

  test-sound : (n j : ℕ) (g : Gate) → n ≤ most_tests → j < n → TestLoop n j g → Gives (test counts j g) (TestLoop n (j + 1))
  unfolding test
  test-sound n j g room h l =
      gives_then (gives-any byte)
      (λ c u.
      gives-judge (no_component_fault (length counts) c)
      (λ known.
      gives-judged byte (mask_fault (get_or counts c 0)) (λ m. with_test j c m g)
      (λ m fits.
      record {
        tests = l.tests;
        filled = tests-more counts j g.component g.mask c m l.filled (omega arith) known fits;
        inputs_kept = l.inputs_kept;
        without_gates = l.without_gates;
      })))

  tests-read : (n : ℕ) (g : Gate) → inputs_fault most_tests n ≡ 0 → TestLoop n n g → SoFar 2 g
  tests-read n g kept l =
      record {
        tests_kept =
            record {
              count = rw l.tests (unless-none 0 n (inputs_fault most_tests n) kept);
              filled = subst (λ (k : ℕ). TestsFilled counts k g.component g.mask) (sym l.tests) l.filled;
            };
        inputs_kept = l.inputs_kept;
        no_tests = λ e. absurd (omega arith);
        without_gates = λ e. l.without_gates;
      }

  tests-sound : (g : Gate) → SoFar 1 g → Gives (tests counts g) (SoFar 2)
  unfolding tests
  tests-sound g s =
      gives_then (count-sound most_tests)
      (λ n kept.
      let room = (range-kept _ _ most_tests n kept).most in
      gives-weaker (λ h l. tests-read n h kept l)
      (gives-repeat (TestLoop n) (test counts) n (with_tests n g) (λ j h less l. test-sound n j h room less l)
      (record {
        tests = refl;
        filled = subst (λ (k : ℕ). TestsFilled counts k g.component g.mask) (s.no_tests (omega arith)) s.tests_kept.filled;
        inputs_kept = s.inputs_kept;
        without_gates = s.without_gates (omega arith);
      })))

  -- j of n gate inputs are read
  record InputLoop (n j : ℕ) (g : Gate) : Type 0 where
    gates : g.gates ≡ n
    filled : InputsFilled number j g.input
    tests_kept : TestsKept g.tests g.component g.mask

  input-sound : (n j : ℕ) (g : Gate) → n ≤ most_gate_inputs → j < n → InputLoop n j g → Gives (input number j g) (InputLoop n (j + 1))
  unfolding input
  input-sound n j g room h l =
      gives-judged byte (ahead_fault number) (λ lower. with_input j lower g)
      (λ lower kept. record { gates = l.gates; filled = filled_more l.filled (omega arith) kept; tests_kept = l.tests_kept })

  inputs_read : (n : ℕ) (g : Gate) → inputs_fault most_gate_inputs n ≡ 0 → InputLoop n n g → SoFar 3 g
  inputs_read n g kept l =
      record {
        tests_kept = l.tests_kept;
        inputs_kept =
            record {
              count = rw l.gates (unless-none 0 n (inputs_fault most_gate_inputs n) kept);
              filled = subst (λ (k : ℕ). InputsFilled number k g.input) (sym l.gates) l.filled;
            };
        no_tests = λ e. absurd (omega arith);
        without_gates = λ e. absurd (omega arith);
      }

  inputs-sound : (g : Gate) → SoFar 2 g → Gives (inputs number g) (SoFar 3)
  unfolding inputs
  inputs-sound g s =
      gives_then (count-sound most_gate_inputs)
      (λ n kept.
      let room = (range-kept _ _ most_gate_inputs n kept).most in
      gives-weaker (λ h l. inputs_read n h kept l)
      (gives-repeat (InputLoop n) (input number) n (with_gates n g) (λ j h less l. input-sound n j h room less l)
      (record {
        gates = refl;
        filled = subst (λ (k : ℕ). InputsFilled number k g.input) (s.without_gates (omega arith)) s.inputs_kept.filled;
        tests_kept = s.tests_kept;
      })))

  field-sound : (k : ℕ) (g : Gate) → 2 ^ k < gate_maps → SoFar k g → Gives (gate_field counts number k g) (SoFar (k + 1))
  unfolding gate_field
  field-sound k g meant s =
      gives-cond (eqb k 0) (λ e. rw (eqb-true k 0 e) (threshold-sound g (rw (eqb-true k 0 e) at s)))
      (λ not0.
      gives-cond (eqb k 1) (λ e. rw (eqb-true k 1 e) (tests-sound g (rw (eqb-true k 1 e) at s)))
      (λ not1.
      let two : k ≡ 2 = omega (arith, bit-meant 3 k meant, eqb-false k 0 not0, eqb-false k 1 not1) in
      rw two (inputs-sound g (rw two at s))))

  pub gate-sound : Gives (gate counts number) (WholeGate (SoundGate counts number))
  unfolding gate
  gate-sound =
      gives_then (gives-fields SoFar gate_maps (gate_field counts number) absent_gate start field-sound passed)
      (λ g s.
      let tests = s.tests_kept in
      let inputs = s.inputs_kept in
      gives-judge (threshold_fault (input_count g) g.threshold)
      (λ within.
      gives-return
      (record {
        kept =
            record {
              tests = tests.count;
              gates = inputs.count;
              component = tests.filled.components.below;
              mask = tests.filled.fit;
              input = inputs.filled.below;
              threshold = within;
              behind =
                  record { component = tests.filled.components.behind; mask = tests.filled.masks.behind; input = inputs.filled.behind };
            };
        shaped =
            record { component = tests.filled.components.long; mask = tests.filled.masks.long; input = inputs.filled.long };
      })))

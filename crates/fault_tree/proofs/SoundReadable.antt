-- A sound study and its joint states can be read: its gates name components, lower gates and states that are there.
use Prim.Native.Nat.{ℕ, zero, suc, ◌<◌}
use mathlib.Core.Path.{◌≡◌, refl, sym, ap, subst, ◌∙◌}
use mathlib.Core.Bool.{Bool}
use mathlib.Core.List.{List}
use native.Mathlib.Omega.{arith}
use lib.ListN.{length, get_or, take, replicate}
use lib.Seq.{length-take-le}
use Rattle.rules.specs.Limits.{most_components, most_gates}
use Rattle.joint_states.specs.JointStates.{JointState}
use Rattle.joint_states.proofs.Numbered.{number_up}
use Rattle.study.specs.declared.Gate.{Gate}
use Rattle.study.specs.declared.Study.{Study}
use Rattle.study.specs.Joint.{state_counts}
use Rattle.study.specs.Places.{no_gate, gate_at}
use Rattle.ordering.specs.Inputs.{Input}
use Rattle.gate_order.specs.Rows.{distinct_gate}
use Rattle.gate_order.proofs.Distinct.{distinct-fits, distinct-tests-every, distinct-gate-inputs-every}
use Rattle.gate_order.proofs.InOrder.{Fits}
use Rattle.soundness.specs.Sound.{Sound}
use Rattle.soundness.proofs.Ranges.{components-most, gates-most, counts-long, counts-small, count-least}
use Rattle.soundness.proofs.Ranges.{tests-most, gate-inputs-most, test-component, input-lower}
use Rattle.fault_tree.specs.Readable.{GateReadable, all_up, TableBegins}
use Rattle.fault_tree.specs.Told.{OnceEach, gate_told}
use Rattle.fault_tree.specs.Truth.{gate_true}
use Rattle.fault_tree.proofs.GatesTold.{gate-told}

module _ (t : Study) (s : Sound t) (once : List Gate) (each : OnceEach t.gate t.gates once) (i : ℕ) (h : i < t.gates) where
  -- gate i has its places, and no more inputs than those
  gate-fits : Fits (gate_at t i)
  gate-fits = record { shaped = each.shaped i h; tests = tests-most t s i h; gates = gate-inputs-most t s i h }

  -- without its repeats it can be read in joint state x, where the gates have these truths
  pub once-readable : (x : List ℕ) (truths : List Bool) → JointState (state_counts t) x → length truths ≡ most_gates
      → GateReadable (get_or once i no_gate) x truths
  once-readable x truths j long =
      let few = distinct-fits (gate_at t i) gate-fits in
      let component =
      distinct-tests-every (λ (a : Input). a.number < length x) (gate_at t i) gate-fits (λ k less. rw j.long (test-component t s i h k less)) in
      let input =
      distinct-gate-inputs-every (λ (a : Input). a.number < length truths) (gate_at t i) gate-fits
      (λ k less. omega (arith, input-lower t s i h k less, gates-most t s, long)) in
      let readable : GateReadable (distinct_gate (gate_at t i)) x truths =
      record {
        tests =
            record {
              count = few.tests;
              component = component;
              state = λ k less. omega (arith, j.below k (omega (arith, j.long)), counts-small t s (state_counts t) refl k (omega (arith, j.long)));
            };
        inputs = record { count = few.gates; input = input };
      } in
      subst (λ (g : Gate). GateReadable g x truths) (sym (each.each i h)) readable

  -- and it tells the truth of the gate
  pub once-told : (x : List ℕ) (holds : ℕ → Bool) → gate_told (get_or once i no_gate) x holds ≡ gate_true (gate_at t i) x holds
  once-told x holds = ap (λ (g : Gate). gate_told g x holds) (each.each i h) ∙ gate-told (gate_at t i) gate-fits x holds

-- ---- all components up

zeros : (m n k : ℕ) → ◌≡◌ {A = ℕ} (get_or (take n (replicate m 0)) k 0) 0
zeros zero zero k = refl
zeros zero (suc n) k = refl
zeros (suc m) zero k = refl
zeros (suc m) (suc n) zero = refl
zeros (suc m) (suc n) (suc k) = zeros m n k

-- a class table begins there
pub begins : (t : Study) → Sound t → length t.component ≡ most_components → TableBegins t (state_counts t) (take t.components all_up)
unfolding all_up
begins t s places =
    let long = counts-long t s places in
    record {
      sound = s;
      same = refl;
      joint =
          record {
            long = length-take-le t.components all_up (components-most t s) ∙ sym long;
            below = λ k h. rw (zeros most_components t.components k) (omega (arith, count-least t s k (omega (arith, long))));
          };
      first = number_up (state_counts t) (take t.components all_up) (zeros most_components t.components);
    }

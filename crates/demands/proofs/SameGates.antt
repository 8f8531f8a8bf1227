-- Gates by their inputs: two that hold the same rows in their places are the same gate.
use Prim.Native.Nat.{ℕ, ◌<◌}
use mathlib.Core.Path.{◌≡◌, sym, ap, ◌∙◌}
use mathlib.Core.List.{List}
use native.Mathlib.Decide.{dec_lt}
use native.Mathlib.Omega.{arith}
use lib.ListN.{get_or}
use lib.Seq.{ext_get_or}
use Rattle.ordering.specs.Inputs.{Input, no_input}
use Rattle.rules.specs.Limits.{most_tests, most_gate_inputs}
use Rattle.study.specs.declared.Gate.{Gate}
use Rattle.gate_order.specs.Inputs.{unmasked, tests_of, gate_inputs_of}
use Rattle.gate_order.proofs.InOrder.{Fits}
use Rattle.gate_order.proofs.Kept.{test_at, test_at_lem, gate-input-at}
use Rattle.soundness.specs.Sound.{ZeroBehind}

module _ (g h : Gate) (fits : Fits g) (fits' : Fits h) (behind : ZeroBehind g) (behind' : ZeroBehind h) (same_tests : g.tests ≡ h.tests)
    (same-gates : g.gates ≡ h.gates) (tests : tests_of g ≡ tests_of h) (inputs : gate_inputs_of g ≡ gate_inputs_of h) where
  test : (k : ℕ) → k < g.tests → test_at g k ≡ test_at h k
  test k below = sym (test_at_lem g fits k below) ∙ ap (λ (row : List Input). get_or row k no_input) tests ∙ test_at_lem h fits' k (omega (arith, same_tests))

  input : (k : ℕ) → k < g.gates → unmasked (get_or g.input k 0) ≡ unmasked (get_or h.input k 0)
  input k below =
      sym (gate-input-at g fits k below) ∙ ap (λ (row : List Input). get_or row k no_input) inputs ∙ gate-input-at h fits' k (omega (arith, same-gates))

  component-same : (k : ℕ) → k < most_tests → Dec (k < g.tests) → get_or g.component k 0 ≡ get_or h.component k 0
  component-same k inside (yes below) = ap (λ (a : Input). a.number) (test k below)
  component-same k inside (no past) = behind.component k (omega arith) inside ∙ sym (behind'.component k (omega (arith, same_tests)) inside)

  mask-same : (k : ℕ) → k < most_tests → Dec (k < g.tests) → get_or g.mask k 0 ≡ get_or h.mask k 0
  mask-same k inside (yes below) = ap (λ (a : Input). a.mask) (test k below)
  mask-same k inside (no past) = behind.mask k (omega arith) inside ∙ sym (behind'.mask k (omega (arith, same_tests)) inside)

  input-same : (k : ℕ) → k < most_gate_inputs → Dec (k < g.gates) → get_or g.input k 0 ≡ get_or h.input k 0
  input-same k inside (yes below) = ap (λ (a : Input). a.number) (input k below)
  input-same k inside (no past) = behind.input k (omega arith) inside ∙ sym (behind'.input k (omega (arith, same-gates)) inside)

  -- lists of one length that agree below it
  pub same-gate : g.threshold ≡ h.threshold → g ≡ h
  same-gate threshold =
      let component =
      ext_get_or 0 g.component h.component (fits.shaped.component ∙ sym fits'.shaped.component)
      (λ k inside. component-same k (rw fits.shaped.component at inside) (dec_lt k g.tests)) in
      let mask =
      ext_get_or 0 g.mask h.mask (fits.shaped.mask ∙ sym fits'.shaped.mask)
      (λ k inside. mask-same k (rw fits.shaped.mask at inside) (dec_lt k g.tests)) in
      let input =
      ext_get_or 0 g.input h.input (fits.shaped.input ∙ sym fits'.shaped.input)
      (λ k inside. input-same k (rw fits.shaped.input at inside) (dec_lt k g.gates)) in
      λ i.
      record {
        threshold = threshold i;
        tests = same_tests i;
        component = component i;
        mask = mask i;
        gates = same-gates i;
        input = input i;
      }

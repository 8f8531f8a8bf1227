-- What putting the inputs of a gate in order comes to: they stand sorted, so they ascend and are the same inputs, as many of them distinct; a gate in order
-- stays as it is.
use Prim.Native.Nat.{ℕ, zero, suc, min, ◌+◌, ◌≤◌}
use mathlib.Core.Path.{◌≡◌, refl, sym, ap, ap₂, subst, ◌∙◌}
use mathlib.Core.List.{List, [], ◌∷◌, map}
use native.Mathlib.Omega.{arith}
use lib.ListN.{length, take, length-map, length-take}
use Rattle.lists.specs.Rows.{put}
use Rattle.lists.proofs.Elements.{Every}
use Rattle.ordering.specs.Inputs.{Input, no_input, paired, numbers, masks, Ascending, Alike, sorted}
use Rattle.ordering.proofs.Pairs.{paired_long}
use Rattle.ordering.proofs.Sets.{distinct-alike}
use Rattle.ordering.proofs.Sorted.{sorted-alike, alike-long, sorted-long, sorted-every, sorted-ascends, sorted-still}
use Rattle.rules.specs.Limits.{most_tests, most_gate_inputs}
use Rattle.study.specs.declared.Gate.{Gate}
use Rattle.study.specs.Places.{ShapedGate}
use Rattle.gate_order.specs.Inputs.{unmasked, tests_of, gate_inputs_of, input_count}
use Rattle.gate_order.specs.Order.{InOrder, in_order}
use Rattle.gate_order.proofs.Rows.{written-long, tests-written, inputs-written, components-own, masks-own, inputs-own}

-- a gate that has its places, and no more inputs than those
pub record Fits (g : Gate) : Type 0 where
  pub shaped : ShapedGate g
  pub tests : g.tests ≤ most_tests
  pub gates : g.gates ≤ most_gate_inputs

-- gate inputs have no mask
pub unmasked-none : (l : List ℕ) (n : ℕ) → Every (λ (a : Input). a.mask ≡ 0) no_input (take n (map unmasked l))
unmasked-none l zero k h = absurd (omega arith)
unmasked-none [] (suc n) k h = absurd (omega arith)
unmasked-none (a ∷ l) (suc n) zero h = refl
unmasked-none (a ∷ l) (suc n) (suc k) h = unmasked-none l n k (native.Mathlib.Nat.le_of_suc-le-suc h)

module _ (g : Gate) (shaped : ShapedGate g) where
  one-length : length g.component ≡ length g.mask
  one-length = shaped.component ∙ sym shaped.mask

  -- as many as the count says, and no more than there are places
  tests-within : length (tests_of g) ≡ min g.tests (length g.component)
  tests-within = length-take g.tests (paired g.component g.mask) ∙ ap (min g.tests) (paired_long g.component g.mask one-length)

  gate-inputs-within : length (gate_inputs_of g) ≡ min g.gates (length g.input)
  gate-inputs-within = length-take g.gates (map unmasked g.input) ∙ ap (min g.gates) (length-map g.input unmasked)

  -- ---- they stand sorted

  pub tests-sorted : tests_of (in_order g) ≡ sorted (tests_of g)
  unfolding in_order
  tests-sorted = tests-written g.component g.mask g.tests (sorted (tests_of g)) one-length (sorted-long (tests_of g) ∙ tests-within)

  pub gate-inputs-sorted : gate_inputs_of (in_order g) ≡ sorted (gate_inputs_of g)
  unfolding in_order
  gate-inputs-sorted =
      inputs-written g.input g.gates (sorted (gate_inputs_of g)) (sorted-long (gate_inputs_of g) ∙ gate-inputs-within)
      (sorted-every (λ (a : Input). a.mask ≡ 0) (gate_inputs_of g) (unmasked-none g.input g.gates))

  pub tests-alike : Alike (tests_of (in_order g)) (tests_of g)
  tests-alike f = ap (Rattle.lists.specs.Counting.sum_over f) tests-sorted ∙ sorted-alike (tests_of g) f

  pub gate-inputs-alike : Alike (gate_inputs_of (in_order g)) (gate_inputs_of g)
  gate-inputs-alike f = ap (Rattle.lists.specs.Counting.sum_over f) gate-inputs-sorted ∙ sorted-alike (gate_inputs_of g) f

  pub in-order-ordered : InOrder (in_order g)
  in-order-ordered =
      record {
        tests = subst Ascending (sym tests-sorted) (sorted-ascends (tests_of g));
        gate_inputs = subst Ascending (sym gate-inputs-sorted) (sorted-ascends (gate_inputs_of g));
      }

  -- the distinct ones are as many
  pub count-in-order : input_count (in_order g) ≡ input_count g
  unfolding input_count
  count-in-order =
      ap₂ (λ (m n : ℕ). m + n)
      (alike-long _ _ (distinct-alike (tests_of (in_order g)) (tests_of g) tests-alike))
      (alike-long _ _ (distinct-alike (gate_inputs_of (in_order g)) (gate_inputs_of g) gate-inputs-alike))

  -- ---- the places stay

  tests-few : length (sorted (tests_of g)) ≤ length g.component
  tests-few = omega (arith, sorted-long (tests_of g), tests-within)

  gate-inputs-few : length (sorted (gate_inputs_of g)) ≤ length g.input
  gate-inputs-few = omega (arith, sorted-long (gate_inputs_of g), gate-inputs-within)

  pub in-order-shaped : ShapedGate (in_order g)
  unfolding in_order
  in-order-shaped =
      record {
        component =
            written-long g.component (numbers (sorted (tests_of g))) (omega (arith, tests-few, length-map (sorted (tests_of g)) (λ (a : Input). a.number)))
            ∙ shaped.component;
        mask =
            written-long g.mask (masks (sorted (tests_of g)))
            (omega (arith, tests-few, one-length, length-map (sorted (tests_of g)) (λ (a : Input). a.mask)))
            ∙ shaped.mask;
        input =
            written-long g.input (numbers (sorted (gate_inputs_of g)))
            (omega (arith, gate-inputs-few, length-map (sorted (gate_inputs_of g)) (λ (a : Input). a.number)))
            ∙ shaped.input;
      }

module _ (g : Gate) (fits : Fits g) where
  pub tests-long : length (tests_of g) ≡ g.tests
  tests-long = omega (arith, tests-within g fits.shaped, fits.tests, fits.shaped.component)

  pub gate-inputs-long : length (gate_inputs_of g) ≡ g.gates
  gate-inputs-long = omega (arith, gate-inputs-within g fits.shaped, fits.gates, fits.shaped.input)

  pub in-order-fits : Fits (in_order g)
  unfolding in_order
  in-order-fits = record { shaped = in-order-shaped g fits.shaped; tests = fits.tests; gates = fits.gates }

  -- ---- a gate in order stays as it is

  pub in-order-still : InOrder g → in_order g ≡ g
  unfolding in_order
  in-order-still order =
      let room : g.tests ≤ length g.component = rw fits.shaped.component fits.tests in
      let rows = one-length g fits.shaped in
      let tests = sorted-still (tests_of g) order.tests in
      let component =
      ap (λ (row : List Input). put g.component 0 (numbers row)) tests ∙ components-own g.component g.mask g.tests rows room in
      let mask = ap (λ (row : List Input). put g.mask 0 (masks row)) tests ∙ masks-own g.component g.mask g.tests rows room in
      let input =
      ap (λ (row : List Input). put g.input 0 (numbers row)) (sorted-still (gate_inputs_of g) order.gate_inputs)
      ∙ inputs-own g.input g.gates (rw fits.shaped.input fits.gates) in
      λ i. record { threshold = g.threshold; tests = g.tests; component = component i; mask = mask i; gates = g.gates; input = input i }

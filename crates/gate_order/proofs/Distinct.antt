-- A gate without its repeats holds its distinct inputs, so that what holds of each input of the gate holds of each there.
use Prim.Native.Nat.{ℕ, ◌<◌, ◌≤◌}
use mathlib.Core.Path.{◌≡◌, sym, subst, ◌∙◌}
use native.Mathlib.Nat.{min-eq_left}
use native.Mathlib.Omega.{arith}
use lib.ListN.{length, get_or, length-map}
use Rattle.lists.proofs.Elements.{Every}
use Rattle.ordering.specs.Distinct.{distinct}
use Rattle.ordering.specs.Inputs.{Input, no_input, numbers, masks}
use Rattle.ordering.proofs.Sets.{distinct-most, distinct-every}
use Rattle.rules.specs.Limits.{most_tests, most_gate_inputs}
use Rattle.study.specs.declared.Gate.{Gate}
use Rattle.gate_order.specs.Inputs.{unmasked, tests_of, gate_inputs_of}
use Rattle.gate_order.specs.Rows.{distinct_gate}
use Rattle.gate_order.proofs.InOrder.{Fits, unmasked-none, tests-long, gate-inputs-long}
use Rattle.gate_order.proofs.Kept.{test_at, tests-as-row, tests-in-row, gate-inputs-as-row, gate-inputs-in-row}
use Rattle.gate_order.proofs.Rows.{written-long, tests-written, inputs-written}

module _ (g : Gate) (fits : Fits g) where
  -- no more of them than places
  tests-few : length (distinct (tests_of g)) ≤ most_tests
  tests-few = omega (arith, distinct-most (tests_of g), tests-long g fits, fits.tests)

  gate-inputs-few : length (distinct (gate_inputs_of g)) ≤ most_gate_inputs
  gate-inputs-few = omega (arith, distinct-most (gate_inputs_of g), gate-inputs-long g fits, fits.gates)

  pub tests-distinct : tests_of (distinct_gate g) ≡ distinct (tests_of g)
  unfolding distinct_gate
  tests-distinct =
      tests-written g.component g.mask (length (distinct (tests_of g))) (distinct (tests_of g)) (fits.shaped.component ∙ sym fits.shaped.mask)
      (sym (min-eq_left (omega (arith, tests-few, fits.shaped.component))))

  pub gate-inputs-distinct : gate_inputs_of (distinct_gate g) ≡ distinct (gate_inputs_of g)
  unfolding distinct_gate
  gate-inputs-distinct =
      inputs-written g.input (length (distinct (gate_inputs_of g))) (distinct (gate_inputs_of g))
      (sym (min-eq_left (omega (arith, gate-inputs-few, fits.shaped.input))))
      (distinct-every (λ (a : Input). a.mask ≡ 0) (gate_inputs_of g) (unmasked-none g.input g.gates))

  pub distinct-fits : Fits (distinct_gate g)
  unfolding distinct_gate
  distinct-fits =
      let number-long = length-map (distinct (tests_of g)) (λ (a : Input). a.number) in
      let mask-long = length-map (distinct (tests_of g)) (λ (a : Input). a.mask) in
      let input-long = length-map (distinct (gate_inputs_of g)) (λ (a : Input). a.number) in
      record {
        shaped =
            record {
              component =
                  written-long g.component (numbers (distinct (tests_of g))) (omega (arith, number-long, tests-few, fits.shaped.component))
                  ∙ fits.shaped.component;
              mask = written-long g.mask (masks (distinct (tests_of g))) (omega (arith, mask-long, tests-few, fits.shaped.mask)) ∙ fits.shaped.mask;
              input =
                  written-long g.input (numbers (distinct (gate_inputs_of g))) (omega (arith, input-long, gate-inputs-few, fits.shaped.input))
                  ∙ fits.shaped.input;
            };
        tests = tests-few;
        gates = gate-inputs-few;
      }

module _ (P : Input → Type 0) (g : Gate) (fits : Fits g) where
  pub distinct-tests-every : ((j : ℕ) → j < g.tests → P (test_at g j)) → (j : ℕ) → j < (distinct_gate g).tests → P (test_at (distinct_gate g) j)
  distinct-tests-every each =
      let kept = distinct-every P (tests_of g) (tests-as-row P g fits each) in
      tests-in-row P (distinct_gate g) (distinct-fits g fits) (subst (Every P no_input) (sym (tests-distinct g fits)) kept)

  pub distinct-gate-inputs-every : ((j : ℕ) → j < g.gates → P (unmasked (get_or g.input j 0))) → (j : ℕ) → j < (distinct_gate g).gates
      → P (unmasked (get_or (distinct_gate g).input j 0))
  distinct-gate-inputs-every each =
      let kept = distinct-every P (gate_inputs_of g) (gate-inputs-as-row P g each) in
      gate-inputs-in-row P (distinct_gate g) (distinct-fits g fits) (subst (Every P no_input) (sym (gate-inputs-distinct g fits)) kept)

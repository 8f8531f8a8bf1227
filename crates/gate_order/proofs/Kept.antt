-- What putting the inputs of a gate in order keeps: whatever holds of each input, and what stands behind them.
use Prim.Native.Nat.{ℕ, min, ◌<◌, ◌≤◌}
use mathlib.Core.Path.{◌≡◌, sym, subst, ◌∙◌}
use mathlib.Core.List.{map}
use native.Mathlib.Omega.{arith}
use lib.ListN.{length, get_or, length-map, length-take}
use lib.Seq.{get_or-take}
use Rattle.lists.proofs.Elements.{Every}
use Rattle.lists.proofs.Fronts.{put-behind}
use Rattle.lists.proofs.Maps.{get_or-map-inside}
use Rattle.ordering.specs.Inputs.{Input, no_input, paired, numbers, masks, sorted}
use Rattle.ordering.proofs.Pairs.{get_or-paired}
use Rattle.ordering.proofs.Sorted.{sorted-long, sorted-every}
use Rattle.study.specs.declared.Gate.{Gate}
use Rattle.gate_order.specs.Inputs.{unmasked, tests_of, gate_inputs_of}
use Rattle.gate_order.specs.Order.{in_order}
use Rattle.gate_order.proofs.InOrder.{Fits, tests-long, gate-inputs-long, tests-sorted, gate-inputs-sorted, in-order-fits}

-- test j of a gate
abbrev pub test_at : Gate → ℕ → Input
test_at g j = record { number = get_or g.component j 0; mask = get_or g.mask j 0 }

module _ (g : Gate) (fits : Fits g) (j : ℕ) where
  pub test_at_lem : j < g.tests → get_or (tests_of g) j no_input ≡ test_at g j
  test_at_lem below =
      get_or-take g.tests (paired g.component g.mask) j no_input below
      ∙ get_or-paired g.component g.mask j (fits.shaped.component ∙ sym fits.shaped.mask)

  pub gate-input-at : j < g.gates → get_or (gate_inputs_of g) j no_input ≡ unmasked (get_or g.input j 0)
  gate-input-at below =
      get_or-take g.gates (map unmasked g.input) j no_input below
      ∙ get_or-map-inside unmasked g.input j 0 no_input (omega (arith, fits.shaped.input, fits.gates))

-- what holds of each input, place by place, holds of the row, and the other way
pub gate-inputs-as-row : (P : Input → Type 0) (g : Gate) → ((j : ℕ) → j < g.gates → P (unmasked (get_or g.input j 0))) → Every P no_input (gate_inputs_of g)
gate-inputs-as-row P g each k inside =
    let row = map unmasked g.input in
    let within : k < min g.gates (length g.input) = omega (arith, inside, length-take g.gates row, length-map g.input unmasked) in
    let below : k < g.gates = omega (arith, within) in
    let is = get_or-take g.gates row k no_input below ∙ get_or-map-inside unmasked g.input k 0 no_input (omega (arith, within)) in
    subst P (sym is) (each k below)

module _ (P : Input → Type 0) (g : Gate) (fits : Fits g) where
  pub tests-as-row : ((j : ℕ) → j < g.tests → P (test_at g j)) → Every P no_input (tests_of g)
  tests-as-row each k inside = let below : k < g.tests = omega (arith, tests-long g fits) in subst P (sym (test_at_lem g fits k below)) (each k below)

  pub tests-in-row : Every P no_input (tests_of g) → (j : ℕ) → j < g.tests → P (test_at g j)
  tests-in-row each j below = subst P (test_at_lem g fits j below) (each j (omega (arith, tests-long g fits)))

  pub gate-inputs-in-row : Every P no_input (gate_inputs_of g) → (j : ℕ) → j < g.gates → P (unmasked (get_or g.input j 0))
  gate-inputs-in-row each j below = subst P (gate-input-at g fits j below) (each j (omega (arith, gate-inputs-long g fits)))

module _ (P : Input → Type 0) (g : Gate) (fits : Fits g) where
  pub tests-every : ((j : ℕ) → j < g.tests → P (test_at g j)) → (j : ℕ) → j < g.tests → P (test_at (in_order g) j)
  unfolding in_order
  tests-every each =
      let sorts = sorted-every P (tests_of g) (tests-as-row P g fits each) in
      tests-in-row P (in_order g) (in-order-fits g fits) (subst (Every P no_input) (sym (tests-sorted g fits.shaped)) sorts)

  pub gate-inputs-every : ((j : ℕ) → j < g.gates → P (unmasked (get_or g.input j 0))) → (j : ℕ) → j < g.gates → P (unmasked (get_or (in_order g).input j 0))
  unfolding in_order
  gate-inputs-every each =
      let sorts = sorted-every P (gate_inputs_of g) (gate-inputs-as-row P g each) in
      gate-inputs-in-row P (in_order g) (in-order-fits g fits) (subst (Every P no_input) (sym (gate-inputs-sorted g fits.shaped)) sorts)

module _ (g : Gate) (fits : Fits g) (j : ℕ) where
  pub component-behind : g.tests ≤ j → get_or (in_order g).component j 0 ≡ get_or g.component j 0
  unfolding in_order
  component-behind from =
      put-behind g.component (numbers (sorted (tests_of g))) j
      (omega (arith, length-map (sorted (tests_of g)) (λ (a : Input). a.number), sorted-long (tests_of g), tests-long g fits))

  pub mask-behind : g.tests ≤ j → get_or (in_order g).mask j 0 ≡ get_or g.mask j 0
  unfolding in_order
  mask-behind from =
      put-behind g.mask (masks (sorted (tests_of g))) j
      (omega (arith, length-map (sorted (tests_of g)) (λ (a : Input). a.mask), sorted-long (tests_of g), tests-long g fits))

  pub input-behind : g.gates ≤ j → get_or (in_order g).input j 0 ≡ get_or g.input j 0
  unfolding in_order
  input-behind from =
      put-behind g.input (numbers (sorted (gate_inputs_of g))) j
      (omega (arith, length-map (sorted (gate_inputs_of g)) (λ (a : Input). a.number), sorted-long (gate_inputs_of g), gate-inputs-long g fits))

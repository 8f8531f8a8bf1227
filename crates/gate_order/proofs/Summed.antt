-- What is added up over the inputs of a gate, place by place, is added up over them as a row.
use Prim.Native.Nat.{ℕ, zero, suc, ◌+◌, ◌≤◌}
use mathlib.Core.Path.{◌≡◌, refl, sym, ap, ◌∙◌}
use mathlib.Core.List.{List}
use native.Mathlib.Numerals.{add-one}
use native.Mathlib.Omega.{arith}
use lib.ListN.{length, get_or, take}
use lib.Seq.{take_all}
use Rattle.lists.specs.Counting.{sum, sum_over}
use Rattle.lists.proofs.Adding.{add-next}
use Rattle.lists.proofs.SumBelow.{sum_alike}
use Rattle.ordering.specs.Inputs.{Input, no_input}
use Rattle.study.specs.declared.Gate.{Gate}
use Rattle.gate_order.specs.Inputs.{unmasked, tests_of, gate_inputs_of}
use Rattle.gate_order.proofs.InOrder.{Fits, tests-long, gate-inputs-long}
use Rattle.gate_order.proofs.Kept.{test_at, test_at_lem, gate-input-at}

front-summed : (f : Input → ℕ) (row : List Input) (n : ℕ) → n ≤ length row → sum (λ (j : ℕ). f (get_or row j no_input)) n ≡ sum_over f (take n row)
unfolding sum sum_over
front-summed f row zero h = refl
front-summed f row (suc n) h =
    ap (λ (k : ℕ). k + f (get_or row n no_input)) (front-summed f row n (omega arith))
    ∙ sym (add-next f row n no_input h)
    ∙ ap (λ (k : ℕ). sum_over f (take k row)) (add-one n)

row-summed : (f : Input → ℕ) (row : List Input) (n : ℕ) → length row ≡ n → sum (λ (j : ℕ). f (get_or row j no_input)) n ≡ sum_over f row
row-summed f row n long = front-summed f row n (omega (arith, long)) ∙ ap (sum_over f) (take_all n row (omega (arith, long)))

module _ (f : Input → ℕ) (g : Gate) (fits : Fits g) where
  pub tests-summed : sum (λ (j : ℕ). f (test_at g j)) g.tests ≡ sum_over f (tests_of g)
  tests-summed =
      sum_alike _ _ g.tests (λ j below. ap f (sym (test_at_lem g fits j below))) ∙ row-summed f (tests_of g) g.tests (tests-long g fits)

  pub gate-inputs-summed : sum (λ (j : ℕ). f (unmasked (get_or g.input j 0))) g.gates ≡ sum_over f (gate_inputs_of g)
  gate-inputs-summed =
      sum_alike _ _ g.gates (λ j below. ap f (sym (gate-input-at g fits j below)))
      ∙ row-summed f (gate_inputs_of g) g.gates (gate-inputs-long g fits)

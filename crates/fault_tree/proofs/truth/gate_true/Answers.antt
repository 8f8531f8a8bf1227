-- `fault_tree::truth::gate_true` meets its contract: no more inputs are counted than a gate has.
use Rattle.std.proofs.Common.{ℕ, ◌≤◌, Bool, false, List, get_or, arith}
use Rattle.lists.specs.Bits.{bit}
use Rattle.lists.proofs.Sums.{count_most}
use Rattle.study.specs.declared.Gate.{Gate}
use Rattle.fault_tree.specs.Told.{tests_told, inputs_told}
use Rattle.fault_tree.proofs.truth.gate_true.Goals as goal

tests_most : (g : Gate) (x : List ℕ) → tests_told g x ≤ g.tests
unfolding tests_told
tests_most g x = count_most (λ (j : ℕ). bit (get_or g.mask j 0) (get_or x (get_or g.component j 0) 0)) g.tests

inputs_most : (g : Gate) (holds : ℕ → Bool) → inputs_told g holds ≤ g.gates
unfolding inputs_told
inputs_most g holds = count_most (λ (j : ℕ). holds (get_or g.input j 0)) g.gates

pub overflow_add-result : goal.overflow_add-result
overflow_add-result c =
    let g = c.args.g.now in
    let tests = tests_most g c.args.x.now in
    let inputs = inputs_most g (λ (k : ℕ). get_or c.args.truths.now k false) in
    let few = c.requires in
    record { fits = omega (arith, c.true_tests.ensures, tests, few.tests.count, c.true_inputs.ensures, inputs, few.inputs.count) }

-- `gate_order::judge_inputs` meets its contract: both rows are gone along, the first breach of order is the answer, and where there is none both counts hold.
use Rattle.std.proofs.Common.{◌≡◌, ℕ, ◌+◌, length, ap₂, ◌∙◌, arith, rules}
use Rattle.ordering.specs.Distinct.{distinct}
use Rattle.ordering.specs.Sorting.{ascends}
use Rattle.rules.specs.Limits.{most_gate_inputs}
use Rattle.rules.specs.Refusals.{row_of}
use Rattle.rules.specs.Table.{unsound_fault}
use Rattle.rules.proofs.Judged.{judged}
use Rattle.gate_order.specs.Inputs.{tests_of, gate_inputs_of, input_count}
use Rattle.gate_order.specs.Rows.{no_masks}
use Rattle.gate_order.specs.Breach.{order_fault}
use Rattle.gate_order.proofs.Fronts.{beside-no-masks}
use Rattle.gate_order.proofs.judge_inputs.Goals as goal

pub returns-in_err-gates-clause-order : goal.returns-in_err-gates-clause-order
unfolding order_fault no_masks
returns-in_err-gates-clause-order c =
    let g = c.args.g.now in
    let long : length g.input ≡ most_gate_inputs = search rules in
    let tests : 0 ≡ unsound_fault (ascends (tests_of g)) = c.in_ok-tests.ensures.order in
    let gates : row_of c.in_err-gates.field-0.0 ≡ unsound_fault (ascends (gate_inputs_of g)) = rw beside-no-masks at c.in_err-gates.ensures.order in
    grind (arith, judged)

pub returns-clause-order : goal.returns-clause-order
unfolding order_fault no_masks
returns-clause-order c =
    let g = c.args.g.now in
    let long : length g.input ≡ most_gate_inputs = search rules in
    let tests : 0 ≡ unsound_fault (ascends (tests_of g)) = c.in_ok-tests.ensures.order in
    let gates : 0 ≡ unsound_fault (ascends (gate_inputs_of g)) = rw beside-no-masks at c.in_ok-gates.ensures.order in
    grind (arith, judged)

pub returns-clause-many : goal.returns-clause-many
unfolding input_count no_masks
returns-clause-many c =
    let g = c.args.g.now in
    let long : length g.input ≡ most_gate_inputs = search rules in
    let gates : c.in_ok-gates.gates ≡ length (distinct (gate_inputs_of g)) = rw beside-no-masks at c.in_ok-gates.ensures.many in
    ap₂ (λ (m n : ℕ). m + n) (c.from.ensures ∙ c.in_ok-tests.ensures.many) (c.from-2.ensures ∙ gates)

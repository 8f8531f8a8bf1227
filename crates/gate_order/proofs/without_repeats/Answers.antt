-- `gate_order::without_repeats` meets its contract: the distinct inputs of both rows stand in their places.
use Rattle.std.proofs.Common.{◌≡◌, length, rules}
use Rattle.rules.specs.Limits.{most_gate_inputs}
use Rattle.gate_order.specs.Rows.{no_masks, distinct_gate}
use Rattle.gate_order.proofs.Fronts.{beside-no-masks}
use Rattle.gate_order.proofs.without_repeats.Goals as goal

pub returns-clause-inputs : goal.returns-clause-inputs
unfolding distinct_gate no_masks
returns-clause-inputs c order =
    let given = c.args.g.now in
    let long : length given.input ≡ most_gate_inputs = search rules in
    let tests = c.keep_front-tests.ensures.kept order.tests in
    let gates = rw (beside-no-masks given.input long) at c.keep_front-gates.ensures.kept in
    let inputs = gates order.gate_inputs in
    λ i.
    record {
      threshold = given.threshold;
      tests = tests.many i;
      component = tests.in_numbers i;
      mask = tests.in_masks i;
      gates = inputs.many i;
      input = inputs.in_numbers i;
    }

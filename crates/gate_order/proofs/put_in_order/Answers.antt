-- `gate_order::put_in_order` meets its contract: both rows are put in order in their places, and their distinct inputs are counted.
use Rattle.std.proofs.Common.{◌≡◌, ℕ, ◌+◌, length, ap₂, ◌∙◌, rules}
use Rattle.rules.specs.Limits.{most_gate_inputs}
use Rattle.gate_order.specs.Inputs.{input_count}
use Rattle.gate_order.specs.Order.{in_order}
use Rattle.gate_order.specs.Rows.{no_masks}
use Rattle.gate_order.proofs.Fronts.{beside-no-masks}
use Rattle.gate_order.proofs.put_in_order.Goals as goal

pub returns : goal.returns
unfolding in_order input_count no_masks
returns c =
    let given = c.args.g.now in
    let long : length given.input ≡ most_gate_inputs = search rules in
    let tests = c.order_front-tests.ensures in
    let gates = rw (beside-no-masks given.input long) at c.order_front-gates.ensures in
    record {
      sorted =
          λ i.
          record {
            threshold = given.threshold;
            tests = given.tests;
            component = tests.number i;
            mask = tests.mask i;
            gates = given.gates;
            input = gates.number i;
          };
      many = ap₂ (λ (m n : ℕ). m + n) (c.from.ensures ∙ tests.many) (c.from-2.ensures ∙ gates.many);
    }

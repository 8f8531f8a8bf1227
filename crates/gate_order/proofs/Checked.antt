-- The check for 16 tells whether the inputs of a gate stand in order.
use mathlib.Core.Path.{◌≡◌, refl}
use mathlib.Core.List.{map}
use native.Mathlib.Omega.{arith}
use lib.ListN.{length-take}
use Rattle.ordering.specs.Inputs.{paired}
use Rattle.ordering.proofs.Rises.{ascends-kept, ascends_none}
use Rattle.rules.specs.Breach.{refuse}
use Rattle.rules.proofs.Kept.{first-kept, first-none}
use Rattle.rules.proofs.Rows.{sound-kept}
use Rattle.study.specs.declared.Gate.{Gate}
use Rattle.gate_order.specs.Inputs.{unmasked, tests_of, gate_inputs_of}
use Rattle.gate_order.specs.Breach.{order_fault}
use Rattle.gate_order.specs.Order.{InOrder}

pub order-kept : (g : Gate) → order_fault g ≡ 0 → InOrder g
unfolding order_fault
order-kept g e =
    let both = first-kept _ _ e in
    record {
      tests = ascends-kept (tests_of g) (sound-kept _ both.left);
      gate_inputs = ascends-kept (gate_inputs_of g) (sound-kept _ both.right);
    }

pub order-none : (g : Gate) → InOrder g → order_fault g ≡ 0
unfolding order_fault refuse
order-none g order =
    first-none _ _ (rw (ascends_none (tests_of g) order.tests) refl) (rw (ascends_none (gate_inputs_of g) order.gate_inputs) refl)

-- a gate without inputs has them in order
pub none-ordered : (g : Gate) → g.tests ≡ 0 → g.gates ≡ 0 → InOrder g
none-ordered g no_tests without_gates =
    record {
      tests = λ k h. absurd (omega (arith, length-take g.tests (paired g.component g.mask)));
      gate_inputs = λ k h. absurd (omega (arith, length-take g.gates (map unmasked g.input)));
    }

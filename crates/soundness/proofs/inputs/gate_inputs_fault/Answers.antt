-- `soundness::inputs::gate_inputs_fault` meets its contract. No place so far is broken (`FirstLeft`), and the first that is ends the loop.
use Rattle.std.proofs.Common.{◌∙◌, arith}
use Rattle.soundness.specs.Check.{gate_inputs_fault}
use Rattle.soundness.proofs.Places.{place_broken, all_passed}
use Rattle.soundness.proofs.Unused.{no-inputs}
use Rattle.soundness.proofs.inputs.gate_inputs_fault.Goals as goal

pub returns-in_err-input_place_fault : goal.returns-in_err-input_place_fault
unfolding gate_inputs_fault
returns-in_err-input_place_fault c =
    let first = place_broken c.loop-j.invariant _ c.loop-j-test.true c.in_err-input_place_fault.ensures in grind arith

pub returns : goal.returns
unfolding gate_inputs_fault
returns c = all_passed c.loop-j.invariant c.loop-j-test.false

-- with no gate inputs, the row is judged at once
pub returns-then-gates-eq0 : goal.returns-then-gates-eq0
returns-then-gates-eq0 c = rw c.if-gates-eq0.true (c.unused_row_fault.ensures ∙ no-inputs c.args.i c.args.input.now)

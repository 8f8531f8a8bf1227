-- `soundness::inputs::gate_inputs_fault` meets its contract. No place so far is broken (`FirstLeft`), and the first that is ends the loop.
use Rattle.std.proofs.Common.{ℕ, get_or}
use Rattle.rules.specs.Limits.{most_gate_inputs}
use Rattle.rules.proofs.Firsts.{FirstLeft}
use Rattle.soundness.specs.Check.{input_place_fault}
use Rattle.soundness.proofs.inputs.gate_inputs_fault.Given as goal

abbrev pub invariant-loop-j : goal.invariant-loop-j
invariant-loop-j l =
    FirstLeft (λ (k : ℕ). input_place_fault l.i l.gates k (get_or l.input k 0)) most_gate_inputs l.j 0

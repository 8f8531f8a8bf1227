-- `soundness::gates::gates_fault` meets its contract. No place so far is broken (`FirstLeft`), and the first that is ends the loop.
use Rattle.std.proofs.Common.{ℕ, get_or}
use Rattle.rules.specs.Limits.{most_gates}
use Rattle.rules.proofs.Firsts.{FirstLeft}
use Rattle.study.specs.Places.{no_gate}
use Rattle.soundness.specs.Check.{gate_place_fault}
use Rattle.soundness.proofs.gates.gates_fault.Given as goal

abbrev pub invariant-loop-i : goal.invariant-loop-i
invariant-loop-i l =
    FirstLeft (λ (k : ℕ). gate_place_fault l.counts l.n k (get_or l.gate k no_gate)) most_gates l.i 0

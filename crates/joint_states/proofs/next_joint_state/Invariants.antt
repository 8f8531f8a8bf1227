-- `joint_states::next_joint_state` meets its contract. A carry goes from the last component towards component 0 (`Carried`).
use Rattle.joint_states.proofs.Steps.{Carried}
use Rattle.joint_states.proofs.next_joint_state.Given as goal

abbrev pub invariant-loop-i : goal.invariant-loop-i
invariant-loop-i l =
    Carried l.counts l.initial.x l.i l.x

-- `joint_states::number_of` meets its contract. The states of the components below i are read (`NumberLeft`), to a number that is below that of the
-- joint states and so fits; the components left fall.
use Rattle.joint_states.proofs.NumberLeft.{NumberLeft}
use Rattle.joint_states.proofs.number_of.Given as goal

abbrev pub invariant-loop-i : goal.invariant-loop-i
invariant-loop-i l =
    NumberLeft l.counts l.x l.i l.number

-- `joint_states::number_of` meets its contract. The states of the components below i are read (`NumberLeft`), to a number that is below that of the
-- joint states and so fits.
use Rattle.std.proofs.Common.{arith}
use Rattle.joint_states.proofs.NumberLeft.{left-more, left_below, left-done}
use Rattle.joint_states.proofs.number_of.Goals as goal

pub overflow_mul-number : goal.overflow_mul-number
overflow_mul-number c =
    let next = left_below (left-more c.loop-i.invariant c.loop-i-test.true) in rw c.from.ensures (record { fits = omega arith })

pub overflow_add-number : goal.overflow_add-number
overflow_add-number c =
    let next = left_below (left-more c.loop-i.invariant c.loop-i-test.true) in rw (c.from.ensures, c.from-in-loop-i.ensures) (record { fits = omega arith })

pub loop-i-preserved : goal.loop-i-preserved
loop-i-preserved c = rw (c.from.ensures, c.from-in-loop-i.ensures) (left-more c.loop-i.invariant c.loop-i-test.true)

pub returns : goal.returns
returns c = left-done c.loop-i.invariant c.loop-i-test.false

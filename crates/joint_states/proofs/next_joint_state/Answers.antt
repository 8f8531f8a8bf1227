-- `joint_states::next_joint_state` meets its contract. A carry goes from the last component towards component 0 (`Carried`).
use Rattle.std.proofs.Common.{arith}
use Rattle.joint_states.proofs.Steps.{carry-start, carry-more, carry-stops, carry-ends}
use Rattle.joint_states.proofs.next_joint_state.Goals as goal

pub loop-i-init : goal.loop-i-init
loop-i-init c = carry-start _ _ c.requires

pub returns-then-x-i-clause-x_after : goal.returns-then-x-i-clause-x_after
returns-then-x-i-clause-x_after c = (carry-stops _ _ _ _ _ c.loop-i.invariant (omega arith) c.if-x-i.true).number

pub loop-i-preserved : goal.loop-i-preserved
loop-i-preserved c = carry-more _ _ _ _ _ c.loop-i.invariant (omega arith) c.if-x-i.false

pub returns-clause-x_after : goal.returns-clause-x_after
returns-clause-x_after c = (carry-ends _ _ _ _ c.requires c.loop-i.invariant c.loop-i-test.false).number

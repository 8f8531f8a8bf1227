-- `opening::components::read_component_after` meets its contract: joint states that are not refused are within the limit.
use Rattle.std.proofs.Common.{◌*◌, ◌≤◌, sym}
use borrow.Author.Tests.{ltb-false}
use Rattle.rules.specs.Limits.{most_joint_states}
use Rattle.rules.proofs.Kept.{refuse-kept}
use Rattle.opening.proofs.components.read_component_after.Goals as goal

pub returns-clause-kept : goal.returns-clause-kept
returns-clause-kept c =
    let within : c.args.joint * c.from.result ≤ most_joint_states = ltb-false _ _ (refuse-kept 6 _ (sym c.in_ok-width_fault.ensures)) in
    rw c.from.ensures at within

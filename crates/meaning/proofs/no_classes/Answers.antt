-- `meaning::no_classes` meets its contract: every place is written out as 0.
use Rattle.lists.proofs.Cleared.{is-cleared}
use Rattle.rules.specs.Limits.{most_joint_states}
use Rattle.meaning.proofs.no_classes.Goals as goal

pub returns : goal.returns
returns c =
    is-cleared most_joint_states

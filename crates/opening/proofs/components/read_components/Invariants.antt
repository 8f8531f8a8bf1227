-- `opening::components::read_components` meets its contract: each turn puts one record in its place, and `joint` counts the joint states of those placed.
use Rattle.std.proofs.Common.{◌≡◌, ◌≤◌, length, take}
use Rattle.lists.specs.Product.{product}
use Rattle.rules.specs.Limits.{most_components, most_joint_states}
use Rattle.reading.specs.Reader.{got}
use Rattle.reading.proofs.Repeats.{RepeatLeft}
use Rattle.study.specs.Joint.{states}
use Rattle.opening.specs.Opening.{component_record, placing}
use Rattle.opening.proofs.components.read_components.Given as goal

abbrev pub invariant-loop-i : goal.invariant-loop-i
invariant-loop-i l =
    record {
      left : RepeatLeft (placing component_record) l.n l.initial.component l.initial.bytes.rest.now (got l.component l.bytes.rest.now) l.i;
      counted : l.joint ≡ product (take l.i (states l.component));
      few : l.joint ≤ most_joint_states;
      long : length l.component ≡ most_components;
    }

-- A block of classes: one for each joint state of components that have a state at least, and so few states that none is taken for the blank
-- mark.
use Rattle.std.specs.Prelude.{ℕ, ◌<◌, ◌≤◌, ◌≡◌, List, length, get_or}
use Rattle.lists.specs.Product.{product}
use Rattle.rules.specs.Limits.{most_components, most_joint_states}
use Rattle.joint_states.specs.JointStates.{number_of}
use Rattle.entries.specs.Entries.{blank_mark}

pub record Block (counts block : List ℕ) : Type 0 where
  pub long : length block ≡ product counts
  pub some : (k : ℕ) → k < length counts → 0 < get_or counts k 0
  pub most : (k : ℕ) → k < length counts → get_or counts k 0 ≤ blank_mark

-- a block of few enough components and classes for its list to have room
pub record Listable (counts block : List ℕ) : Type 0 where
  pub whole : Block counts block
  pub components : length counts ≤ most_components
  pub small : length block ≤ most_joint_states

-- the class that a block has for a joint state
abbrev pub class_at : List ℕ → List ℕ → List ℕ → ℕ
class_at counts block x = get_or block (number_of counts x) 0

-- What holds of the paths of any block of classes.
use Rattle.std.specs.Prelude.{ℕ, ◌<◌, ◌≤◌, ◌≡◌, List, [], length, get_or}
use Rattle.lists.specs.Product.{product}
use Rattle.joint_states.specs.JointStates.{JointState}
use Rattle.paths.specs.Blocks.{Block, class_at}
use Rattle.paths.specs.Paths.{paths}
use Rattle.paths.specs.Words.{IsEntry, OnePath, Ascending, BlankIff}

abbrev pub OnePathEach : Type 0
OnePathEach =
    (counts block : List ℕ) → Block counts block → (x : List ℕ) → JointState counts x
    → OnePath (length counts) (class_at counts block x) x (paths counts block)

abbrev pub PathsAscend : Type 0
PathsAscend = (counts block : List ℕ) → Block counts block → Ascending (length counts) (paths counts block)

abbrev pub BlankExactly : Type 0
BlankExactly =
    (counts block : List ℕ) → Block counts block → (i k : ℕ) → i < length (paths counts block) → k < length counts
    → BlankIff counts (class_at counts block) k (get_or (paths counts block) i [])

-- two blocks of the same components have the same paths only where they are the same
abbrev pub PathsTell : Type 0
PathsTell = (counts a b : List ℕ) → Block counts a → Block counts b → paths counts a ≡ paths counts b → a ≡ b

abbrev pub EachIsEntry : Type 0
EachIsEntry =
    (counts block : List ℕ) → Block counts block → (i : ℕ) → i < length (paths counts block)
    → IsEntry counts (class_at counts block) (get_or (paths counts block) i [])

-- there is a path at least, and at most one for each joint state
pub record PathsFew (counts block : List ℕ) : Type 0 where
  pub some : 0 < length (paths counts block)
  pub most : length (paths counts block) ≤ product counts

abbrev pub FewPaths : Type 0
FewPaths = (counts block : List ℕ) → Block counts block → PathsFew counts block

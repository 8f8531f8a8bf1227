-- The leaf that a joint state reaches, as a walk down the tree: at each node it goes on with the subtree of the state
-- that its component has.
use Rattle.std.specs.Prelude.{ℕ, zero, suc, ◌+◌, ◌<◌, ◌≡◌, List, [], ◌∷◌, length, get_or}
use Rattle.joint_states.specs.JointStates.{JointState}
use Rattle.drawn_tree.specs.Drawn.{drawn_fault, drawn_tree}
use Rattle.drawn_tree.specs.Tree.{Tree, leaf, node, Trees, none, more, drawn_class}

-- subtree s, counted from state 0 on
pub data Subtree : Trees → ℕ → Tree → Type 0 where
  first : {tree : Tree} {subtrees : Trees} → Subtree (more tree subtrees) zero tree
  later : {s : ℕ} {tree other : Tree} {subtrees : Trees} → Subtree subtrees s tree
      → Subtree (more other subtrees) (suc s) tree

-- joint state x reaches a leaf that bears this class. The branch says which leaf it is: the number of the subtree at
-- each node on the way down, so that no two leaves of a tree have the same branch.
pub data Reaches : Tree → List ℕ → List ℕ → ℕ → Type 0 where
  here : {class : ℕ} {x : List ℕ} → Reaches (leaf class) x [] class
  below : {component class : ℕ} {subtrees : Trees} {tree : Tree} {x branch : List ℕ}
      → Subtree subtrees (get_or x component 0) tree
      → Reaches tree x branch class → Reaches (node component subtrees) x (get_or x component 0 ∷ branch) class

-- one leaf and only one, whatever class others bear; it bears this class
pub record OneLeaf (tree : Tree) (x : List ℕ) (class : ℕ) : Type 0 where
  pub branch : List ℕ
  pub reaches : Reaches tree x branch class
  pub only : (other : List ℕ) (borne : ℕ) → Reaches tree x other borne → other ≡ branch
  pub bears : (other : List ℕ) (borne : ℕ) → Reaches tree x other borne → borne ≡ class

-- In a tree that is read, every joint state reaches one leaf, which bears its class.
abbrev pub OneLeafEach : Type 0
OneLeafEach =
    (counts : List ℕ) (loads : ℕ) (bytes x : List ℕ) → drawn_fault counts loads bytes ≡ 0 → JointState counts x
    → OneLeaf (drawn_tree counts loads bytes) x (drawn_class (drawn_tree counts loads bytes) x)

-- ---- a tree that asks a component

-- so many subtrees from state s on
unfoldable pub subtrees_from : (ℕ → Tree) → ℕ → ℕ → Trees
subtrees_from subtree s zero = none
subtrees_from subtree s (suc n) = more (subtree s) (subtrees_from subtree (s + 1) n)

-- a subtree for each of its states
abbrev pub asking : List ℕ → ℕ → (ℕ → Tree) → Tree
asking counts component subtree = node component (subtrees_from subtree 0 (get_or counts component 0))

-- goes on with that of the state which the joint state has
abbrev pub AskingReaches : Type 0
AskingReaches =
    (counts : List ℕ) (component : ℕ) (subtree : ℕ → Tree) (x : List ℕ) → JointState counts x
    → component < length counts
    → drawn_class (asking counts component subtree) x ≡ drawn_class (subtree (get_or x component 0)) x

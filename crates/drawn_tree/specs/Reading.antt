-- The bytes of a drawn tree, judged from left to right: a node is its component and a subtree for each state, from
-- state 0 on; a leaf is 255 and its class.
use Rattle.std.specs.Prelude.{ℕ, zero, suc, ◌+◌, Bool, not, cond, List, eqb, length, get_or, set, replicate}
use Rattle.rules.specs.Breach.{refuse}
use Rattle.rules.specs.Limits.{most_components}
use Rattle.rules.specs.Table.{node_fault, bad_end, behind_fault, leaf_fault}
use Rattle.reading.specs.Reader.{refused, Reader, byte_or, judge, return, ◌>>=◌, ◌>>◌}
use Rattle.entries.specs.ClassReader.{class_or}
use Rattle.entries.specs.Entries.{blank_mark}
use Rattle.drawn_tree.specs.Tree.{Tree, leaf, node, Trees, none, more}

-- what stands in place of a component at a leaf
abbrev pub leaf_mark : ℕ
leaf_mark = 255

-- ---- what a branch has asked

-- Marks are those of an entry: the state of each component that is asked above on this branch, and the blank mark for every other.
unfoldable pub nothing_asked : List ℕ
nothing_asked = replicate most_components blank_mark

abbrev pub asked : List ℕ → ℕ → Bool
asked marks component = not (eqb (get_or marks component 0) blank_mark)

-- ---- the tree at the front of the bytes

-- a byte, which is due: 21 where none is left
abbrev pub tree_byte : Reader ℕ
tree_byte = byte_or bad_end

-- a class likewise: 21 where it is not all there
abbrev pub tree_class : Reader ℕ
tree_class = class_or bad_end

-- a leaf behind its mark: the class is judged once it is read
unfoldable pub leaf_read : ℕ → Reader Tree
unfolding class_or refuse
leaf_read loads = do
  class ← tree_class
  judge (leaf_fault loads class)
  return (leaf class)

-- n subtrees from state s on, where `read` reads that of a state
unfoldable pub subtrees_read : (ℕ → Reader Tree) → ℕ → ℕ → Reader Trees
subtrees_read read s zero = return none
subtrees_read read s (suc n) = do
  tree ← read s
  subtrees ← subtrees_read read (s + 1) n
  return (more tree subtrees)

-- a node behind its component, which is judged first
unfoldable pub node_read : List ℕ → List ℕ → ℕ → (ℕ → Reader Tree) → Reader Tree
unfolding refuse subtrees_read
node_read counts marks component read = do
  judge (node_fault (length counts) component (asked marks component))
  subtrees ← subtrees_read read 0 (get_or counts component 0)
  return (node component subtrees)

-- the tree below a branch with these marks, over components with these state counts and so many loads. Where no level is left, each component is
-- asked above; a law says that any more levels read the same.
unfoldable pub tree_read : List ℕ → ℕ → ℕ → List ℕ → Reader Tree
unfolding byte_or leaf_read node_read
tree_read counts loads zero marks bytes = refused 20
tree_read counts loads (suc levels) marks bytes =
    (do
      first ← tree_byte
      cond (eqb first leaf_mark) (leaf_read loads) (node_read counts marks first (λ (s : ℕ). tree_read counts loads levels (set marks first s)))) bytes

-- ---- the whole

-- the end is judged last: 21 where bytes follow the tree
unfoldable pub ended : Tree → Reader Tree
unfolding refuse
ended tree rest = (judge (behind_fault (length rest)) >> return tree) rest

-- the tree that the bytes draw, or the first breach met from the left
unfoldable pub drawn_read : List ℕ → ℕ → Reader Tree
unfolding tree_read nothing_asked ended
drawn_read counts loads = tree_read counts loads (suc most_components) nothing_asked >>= ended

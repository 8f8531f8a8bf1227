-- What a row of bytes draws over components with these state counts and so many loads: a refusal, or a tree.
use Rattle.std.specs.Prelude.{ℕ, List, map}
use Rattle.joint_states.specs.JointStates.{joint_states}
use Rattle.reading.specs.Reader.{Read, refused, got}
use Rattle.drawn_tree.specs.Reading.{drawn_read}
use Rattle.drawn_tree.specs.Tree.{Tree, leaf, drawn_class}

abbrev pub fault_in : Read Tree → ℕ
fault_in (refused n) = n
fault_in (got tree rest) = 0

-- a leaf that loses nothing stands for a tree that is refused
abbrev pub tree_in : Read Tree → Tree
tree_in (refused n) = leaf 0
tree_in (got tree rest) = tree

-- 20, 21 or 22 by the first breach met; 0 where the bytes draw a tree
unfoldable pub drawn_fault : List ℕ → ℕ → List ℕ → ℕ
unfolding drawn_read
drawn_fault counts loads bytes = fault_in (drawn_read counts loads bytes)

unfoldable pub drawn_tree : List ℕ → ℕ → List ℕ → Tree
unfolding drawn_read
drawn_tree counts loads bytes = tree_in (drawn_read counts loads bytes)

-- the classes of all joint states, by their number
unfoldable pub drawn_classes : List ℕ → ℕ → List ℕ → List ℕ
unfolding drawn_tree drawn_class joint_states
drawn_classes counts loads bytes = map (drawn_class (drawn_tree counts loads bytes)) (joint_states counts)

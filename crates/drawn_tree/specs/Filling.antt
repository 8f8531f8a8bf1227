-- What reading does to a class table while it goes: the class of each leaf stands at every joint state of its branch.
use Rattle.std.specs.Prelude.{ℕ, zero, suc, ◌+◌, Bool, cond, List, [], ◌∷◌, eqb, length, get_or, set, Result, Ok, Err}
use Rattle.lists.specs.Counting.{truth}
use Rattle.rules.specs.Breach.{refuse}
use Rattle.rules.specs.declared.refusal.Refusal.{Refusal}
use Rattle.rules.specs.Refusals.{row_of}
use Rattle.rules.specs.Table.{node_fault, leaf_fault}
use Rattle.joint_states.specs.JointStates.{joint_states}
use Rattle.reading.specs.Reader.{Read, refused, got, Reader, byte_or, judge, return, repeat, ◌>>=◌, ◌>>◌}
use Rattle.entries.specs.ClassReader.{class_or}
use Rattle.entries.specs.Entries.{blank_mark}
use Rattle.paths.specs.Words.{fits}
use Rattle.drawn_tree.specs.Reading.{leaf_mark, asked, tree_byte, tree_class}

-- a table with f of each row that is kept written over what stood at the row's place
unfoldable pub painted : (List ℕ → Bool) → (List ℕ → ℕ) → List (List ℕ) → List ℕ → List ℕ
painted keep f [] table = table
painted keep f (x ∷ xs) [] = []
painted keep f (x ∷ xs) (class ∷ table) = cond (keep x) (f x) class ∷ painted keep f xs table

-- a class at every joint state that fits the marks of a branch, as it would fit a path
unfoldable pub branch_filled : List ℕ → List ℕ → ℕ → List ℕ → List ℕ
unfolding painted joint_states fits
branch_filled counts marks class table = painted (λ (x : List ℕ). fits x marks) (λ (x : List ℕ). class) (joint_states counts) table

-- how many components are not asked yet
unfoldable pub unasked : List ℕ → ℕ
unasked [] = 0
unasked (mark ∷ marks) = truth (eqb mark blank_mark) + unasked marks

-- reading a leaf, a node and a tree as they are read, with the table for a value instead of the tree
unfoldable pub leaf_drawn : List ℕ → ℕ → List ℕ → List ℕ → Reader (List ℕ)
unfolding class_or branch_filled refuse
leaf_drawn counts loads marks table = do
  class ← tree_class
  judge (leaf_fault loads class)
  return (branch_filled counts marks class table)

unfoldable pub node_drawn : List ℕ → List ℕ → ℕ → (ℕ → List ℕ → Reader (List ℕ)) → List ℕ → Reader (List ℕ)
unfolding refuse
node_drawn counts marks component draw table = do
  judge (node_fault (length counts) component (asked marks component))
  repeat draw (get_or counts component 0) table

unfoldable pub tree_drawn : List ℕ → ℕ → ℕ → List ℕ → List ℕ → Reader (List ℕ)
unfolding byte_or leaf_drawn node_drawn
tree_drawn counts loads zero marks table bytes = refused 20
tree_drawn counts loads (suc levels) marks table bytes =
    (do
      first ← tree_byte
      cond (eqb first leaf_mark) (leaf_drawn counts loads marks table) (node_drawn counts marks first (λ (s : ℕ). tree_drawn counts loads levels (set marks first s)) table)) bytes

-- below a branch, as deep as components are left to ask
abbrev pub branch_drawn : List ℕ → ℕ → List ℕ → List ℕ → Reader (List ℕ)
branch_drawn counts loads marks table = tree_drawn counts loads (suc (unasked marks)) marks table

-- what the code's drawing is: its refusal by the row's number, or the table with the bytes still to come
abbrev pub filled_of : Result (Unit {0}) Refusal → List ℕ → List ℕ → Read (List ℕ)
filled_of (Ok u) table rest = got table rest
filled_of (Err refusal) table rest = refused (row_of refusal)

-- The paths of the reduced event tree, from the classes of all joint states. A block is the part of the class table that is left once the
-- components in front have their states.
use Rattle.std.specs.Prelude.{ℕ, ◌*◌, Bool, true, false, List, [], ◌∷◌, map, get_or, take, drop}
use Rattle.lists.specs.Counting.{all_below}
use Rattle.lists.specs.Product.{product}
use Rattle.lists.specs.Rows.{same}
use Rattle.joint_states.specs.JointStates.{divided}
use Rattle.entries.specs.Entries.{blank_mark, entry}

-- the part of a block that a component's state s leads to: the classes for each choice of the later components, of which there are m
abbrev pub part : ℕ → ℕ → List ℕ → List ℕ
part m s block = take m (drop (s * m) block)

-- "blank": whichever states the later components are in, all states of this one lead to the same class
unfoldable pub is_blank : ℕ → ℕ → List ℕ → Bool
unfolding all_below same
is_blank states m block = all_below (λ (s : ℕ). same (part m 0 block) (part m s block)) states

-- the rows of paths at a component, `rest` being what follows each of its states: where it is blank, the blank mark in front of what follows
-- state 0; otherwise each of its states, ascending, in front of what follows that state
unfoldable pub rows_at : Bool → ℕ → (ℕ → List (List ℕ)) → List (List ℕ)
unfolding divided
rows_at true states rest = map (λ (row : List ℕ). blank_mark ∷ row) (rest 0)
rows_at false states rest = divided (λ s. s) rest 0 states

-- the paths of a block of classes, over components with these state counts: the entry of each
unfoldable pub paths : List ℕ → List ℕ → List (List ℕ)
unfolding product is_blank rows_at entry
paths [] block = entry [] (get_or block 0 0) ∷ []
paths (c ∷ cs) block = rows_at (is_blank c (product cs) block) c (λ (s : ℕ). paths cs (part (product cs) s block))

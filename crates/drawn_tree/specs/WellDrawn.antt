-- Trees that are well drawn over components with these state counts and so many loads, said of the tree alone; and
-- that their bytes, and no others, are let through.
use Rattle.std.specs.Prelude.{ℕ, zero, suc, ◌^◌, ◌<◌, ◌≤◌, ◌≡◌, List, [], ◌∷◌, length, get_or}
use Rattle.lists.specs.OneOf.{OneOf}
use Rattle.rules.specs.Limits.{most_components}
use Rattle.entries.specs.Entries.{blank_mark}
use Rattle.drawn_tree.specs.Drawn.{drawn_fault, drawn_tree}
use Rattle.drawn_tree.specs.Laws.{tree_bytes}
use Rattle.drawn_tree.specs.Tree.{Tree, leaf, node, Trees, none, more}

mutual
  -- below a branch that has asked the components `above`: a leaf bears a class of the study's loads; a node asks a
  -- component that is there and was not asked above, and has a subtree for each of its states
  pub data WellDrawn (counts : List ℕ) (loads : ℕ) : List ℕ → Tree → Type 0 where
    a_leaf : {above : List ℕ} {class : ℕ} → class < 2 ^ loads → WellDrawn counts loads above (leaf class)
    a_node : {above : List ℕ} {component : ℕ} {subtrees : Trees} → component < length counts
        → (OneOf above component → ⊥)
        → EachDrawn counts loads (component ∷ above) (get_or counts component 0) subtrees
        → WellDrawn counts loads above (node component subtrees)

  -- so many subtrees, each of them well drawn
  pub data EachDrawn (counts : List ℕ) (loads : ℕ) : List ℕ → ℕ → Trees → Type 0 where
    no_more : {above : List ℕ} → EachDrawn counts loads above zero none
    one_more : {above : List ℕ} {n : ℕ} {tree : Tree} {subtrees : Trees} → WellDrawn counts loads above tree
        → EachDrawn counts loads above n subtrees → EachDrawn counts loads above (suc n) (more tree subtrees)

-- the whole tree: nothing is asked above it
abbrev pub WholeDrawn : List ℕ → ℕ → Tree → Type 0
WholeDrawn counts loads tree = WellDrawn counts loads [] tree

-- bytes that are not refused are those of a well-drawn tree, the one that is read
pub record ReadDrawn (counts : List ℕ) (loads : ℕ) (bytes : List ℕ) : Type 0 where
  pub well_drawn : WholeDrawn counts loads (drawn_tree counts loads bytes)
  pub bytes_are : tree_bytes (drawn_tree counts loads bytes) ≡ bytes

-- the bytes of a well-drawn tree are not refused, and that tree is read
pub record LetThrough (counts : List ℕ) (loads : ℕ) (tree : Tree) : Type 0 where
  pub kept : drawn_fault counts loads (tree_bytes tree) ≡ 0
  pub read : drawn_tree counts loads (tree_bytes tree) ≡ tree

pub record Acceptance (counts : List ℕ) (loads : ℕ) : Type 0 where
  pub only : (bytes : List ℕ) → drawn_fault counts loads bytes ≡ 0 → ReadDrawn counts loads bytes
  pub every : (tree : Tree) → WholeDrawn counts loads tree → LetThrough counts loads tree

-- So it is over as many components as a study has places for, with so few states that none is taken for the blank
-- mark.
abbrev pub Accepts : Type 0
Accepts =
    (counts : List ℕ) (loads : ℕ) → length counts ≤ most_components → ((k : ℕ) → get_or counts k 0 ≤ blank_mark)
    → Acceptance counts loads

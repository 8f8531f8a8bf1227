-- What holds of every row of bytes that is read as a drawn tree.
use Rattle.std.specs.Prelude.{ℕ, suc, ◌+◌, ◌≤◌, ◌≡◌, false, List, [], ◌∷◌, ◌++◌, get_or}
use Rattle.lists.specs.Bits.{bit}
use Rattle.rules.specs.Limits.{most_components}
use Rattle.rules.specs.Table.{bad_end}
use Rattle.entries.specs.Entries.{blank_mark, class_code}
use Rattle.drawn_tree.specs.Drawn.{drawn_fault, drawn_tree}
use Rattle.drawn_tree.specs.Reading.{leaf_mark, nothing_asked, tree_read}
use Rattle.drawn_tree.specs.Tree.{Tree, leaf, node, Trees, none, more, drawn_class}

-- A drawn tree is refused by the first breach met from the left.
pub record FirstBreach (counts : List ℕ) (loads : ℕ) : Type 0 where
  -- a front part of the bytes that is refused by another row than 21 decides, whatever follows
  pub decided : (front rest : List ℕ) (n : ℕ) → drawn_fault counts loads front ≡ n → (n ≡ 0 → ⊥) → (n ≡ bad_end → ⊥)
      → drawn_fault counts loads (front ++ rest) ≡ n
  -- a strict front part of a tree ends inside it
  pub too_short : (front rest : List ℕ) → drawn_fault counts loads (front ++ rest) ≡ 0 → (rest ≡ [] → ⊥) → drawn_fault counts loads front ≡ bad_end
  -- bytes behind a tree are refused by the same row
  pub behind : (front rest : List ℕ) → drawn_fault counts loads front ≡ 0 → (rest ≡ [] → ⊥) → drawn_fault counts loads (front ++ rest) ≡ bad_end

abbrev pub DrawnReads : Type 0
DrawnReads = (counts : List ℕ) (loads : ℕ) → FirstBreach counts loads

-- a row of the refusal table by which a drawn tree is refused
pub record DrawnRow (n : ℕ) : Type 0 where
  pub least : 20 ≤ n
  pub most : n ≤ 22

-- It is refused by no other number.
abbrev pub DrawnRows : Type 0
DrawnRows = (counts : List ℕ) (loads : ℕ) (bytes : List ℕ) (n : ℕ) → drawn_fault counts loads bytes ≡ n → (n ≡ 0 → ⊥) → DrawnRow n

-- the bytes of a tree
unfoldable mutual
  pub tree_bytes : Tree → List ℕ
  tree_bytes (leaf class) = leaf_mark ∷ class_code class
  tree_bytes (node component subtrees) = component ∷ trees_bytes subtrees

  pub trees_bytes : Trees → List ℕ
  trees_bytes none = []
  trees_bytes (more tree subtrees) = tree_bytes tree ++ trees_bytes subtrees

-- The tree that is read has the bytes that were given, all of them and no others.
abbrev pub ReadsBack : Type 0
ReadsBack = (counts : List ℕ) (loads : ℕ) (bytes : List ℕ) → drawn_fault counts loads bytes ≡ 0 → tree_bytes (drawn_tree counts loads bytes) ≡ bytes

-- No class that is reached has a bit from the load count on.
abbrev pub NoLoadBeyond : Type 0
NoLoadBeyond = (counts : List ℕ) (loads : ℕ) (bytes x : List ℕ) (j : ℕ) → loads ≤ j → bit (drawn_class (drawn_tree counts loads bytes) x) j ≡ false

-- A branch asks no component twice, so that no more levels than one beyond the components are ever read.
abbrev pub EnoughLevels : Type 0
EnoughLevels =
    (counts : List ℕ) (loads : ℕ) → ((k : ℕ) → get_or counts k 0 ≤ blank_mark) → (beyond : ℕ) (bytes : List ℕ)
    → tree_read counts loads (suc most_components + beyond) nothing_asked bytes ≡ tree_read counts loads (suc most_components) nothing_asked bytes

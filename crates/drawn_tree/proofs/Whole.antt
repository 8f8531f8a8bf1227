-- From what the code has read to the classes that the bytes draw. What carries it: with nothing asked every joint state fits, so that all of the
-- table is painted with the classes of the tree.
use Prim.Native.Nat.{ℕ, zero, suc, ◌<◌, ◌≤◌}
use mathlib.Core.Path.{◌≡◌, refl, sym, ap, ◌∙◌}
use mathlib.Core.Bool.{Bool, true, false, cond}
use mathlib.Core.List.{List, [], ◌∷◌, map}
use native.Mathlib.Decide.{dec_lt}
use native.Mathlib.Omega.{arith}
use lib.Dec.{eqb}
use borrow.Author.Tests.{eqb-true}
use lib.ListN.{length, get_or, replicate, get_or-eq_default}
use Rattle.rules.specs.Limits.{most_components}
use Rattle.rules.specs.Table.{behind_fault}
use Rattle.joint_states.specs.JointStates.{joint_states}
use Rattle.joint_states.proofs.Numbered.{length-joint_states}
use Rattle.entries.specs.Entries.{blank_mark}
use Rattle.paths.specs.Blocks.{Block}
use Rattle.paths.specs.Words.{fits}
use Rattle.reading.specs.Reader.{Read, refused, got, Reader, and_then, judge, return, ◌>>=◌, ◌>>◌}
use Rattle.reading.proofs.Alike.{Alike, alike-return, alike_then, alike-judge}
use Rattle.drawn_tree.specs.Tree.{Tree, drawn_class}
use Rattle.drawn_tree.specs.Reading.{nothing_asked, ended, drawn_read}
use Rattle.drawn_tree.specs.Drawn.{fault_in, tree_in, drawn_fault, drawn_tree, drawn_classes}
use Rattle.drawn_tree.specs.Filling.{unasked, tree_drawn, branch_drawn}
use Rattle.drawn_tree.proofs.Drawn.{tree_painted, tree-drawn}
use Rattle.drawn_tree.proofs.Painted.{painted-all}

all_fit : (n : ℕ) (x : List ℕ) → fits x (replicate n blank_mark) ≡ true
unfolding fits
all_fit n [] = refl
all_fit zero (s ∷ x) = refl
all_fit (suc n) (s ∷ x) = all_fit n x

counts-few : {counts block : List ℕ} → Block counts block → (k : ℕ) → get_or counts k 0 ≤ blank_mark
counts-few {counts} b k = go (dec_lt k (length counts))
  where
    go : Dec (k < length counts) → get_or counts k 0 ≤ blank_mark
    go (yes inside) = b.most k inside
    go (no past) = rw (get_or-eq_default counts 0 {n = k} (omega arith)) (omega arith)

-- the end is judged behind a table as behind a tree
abbrev table_ended : List ℕ → Reader (List ℕ)
table_ended table rest = (judge (behind_fault (length rest)) >> return table) rest

-- the row by which a reading is refused, 0 where it is not; and its table
abbrev row_in : Read (List ℕ) → ℕ
row_in (refused n) = n
row_in (got table rest) = 0

abbrev table_in : List ℕ → Read (List ℕ) → List ℕ
table_in other (refused n) = other
table_in other (got table rest) = table

row-ended : (table rest : List ℕ) → row_in (table_ended table rest) ≡ behind_fault (length rest)
row-ended table rest = go (behind_fault (length rest)) (eqb (behind_fault (length rest)) 0) refl
  where
    go : (breach : ℕ) (b : Bool) → eqb breach 0 ≡ b → row_in (and_then (cond b (got (tt {0}) rest) (refused breach)) (λ u. return table)) ≡ breach
    go breach true none = sym (eqb-true breach 0 none)
    go breach false some = refl

table-kept : (table rest : List ℕ) → behind_fault (length rest) ≡ 0 → table_ended table rest ≡ got table rest
table-kept table rest kept = ap (λ (breach : ℕ). (judge breach >> return table) rest) kept

module _ (counts : List ℕ) (loads : ℕ) (table s : List ℕ) (b : Block counts table) where
  whole-drawn : Alike (tree_painted counts nothing_asked table) (drawn_read counts loads)
      (tree_drawn counts loads (suc most_components) nothing_asked table >>= table_ended)
  unfolding drawn_read ended
  whole-drawn =
      alike_then table_ended (tree-drawn counts loads (counts-few b) (suc most_components) nothing_asked table)
      (λ tree. record { alike = λ rest. (alike-judge (behind_fault (length rest)) (λ kept. alike-return refl)).alike rest })

  -- the table that a reading of the tree comes to
  abbrev tabled : Read Tree → Read (List ℕ)
  tabled reading = and_then reading (λ tree. return (tree_painted counts nothing_asked table tree))

  all-painted : (tree : Tree) → tree_painted counts nothing_asked table tree ≡ map (drawn_class tree) (joint_states counts)
  unfolding nothing_asked
  all-painted tree =
      painted-all (λ x. fits x nothing_asked) (drawn_class tree) (joint_states counts) table (all_fit most_components) (length-joint_states counts ∙ sym b.long)

  -- ---- what the code has read

  row-told : (reading : Read Tree) → row_in (tabled reading) ≡ fault_in reading
  row-told (refused n) = refl
  row-told (got tree rest) = refl

  -- refused inside the tree
  pub whole-refused : (n : ℕ) → refused n ≡ branch_drawn counts loads nothing_asked table s → n ≡ drawn_fault counts loads s
  unfolding drawn_fault unasked nothing_asked
  whole-refused n read =
      ap (λ (r : Read (List ℕ)). row_in (and_then r table_ended)) read ∙ ap row_in (whole-drawn.alike s) ∙ row-told (drawn_read counts loads s)

  module _ {filled rest : List ℕ} (read : got filled rest ≡ branch_drawn counts loads nothing_asked table s) where
    ended-there : table_ended filled rest ≡ tabled (drawn_read counts loads s)
    unfolding unasked nothing_asked
    ended-there = ap (λ (r : Read (List ℕ)). and_then r table_ended) read ∙ whole-drawn.alike s

    -- the bytes behind it are judged
    pub whole-ended : behind_fault (length rest) ≡ drawn_fault counts loads s
    unfolding drawn_fault
    whole-ended = sym (row-ended filled rest) ∙ ap row_in ended-there ∙ row-told (drawn_read counts loads s)

    -- none follow
    pub whole-classes : behind_fault (length rest) ≡ 0 → filled ≡ drawn_classes counts loads s
    unfolding drawn_classes drawn_tree
    whole-classes kept = go (drawn_read counts loads s) (sym (table-kept filled rest kept) ∙ ended-there)
      where
        go : (reading : Read Tree) → got filled rest ≡ tabled reading → filled ≡ map (drawn_class (tree_in reading)) (joint_states counts)
        go (refused n) same = cc
        go (got tree left) same = ap (table_in filled) same ∙ all-painted tree

-- Reading a tree while the class table is filled goes as reading the tree does, and gives the table painted with the tree's classes where the joint
-- state fits the branch. What carries it: painting the subtrees from state s on, of which that of state s is painted first.
use Prim.Native.Nat.{ℕ, zero, suc, ◌+◌, ◌-◌, ◌<◌, ◌≤◌}
use mathlib.Core.Path.{◌≡◌, refl, sym, ap, ◌∙◌}
use mathlib.Core.Bool.{Bool, true, false, cond, ◌&&◌, and-true, and-false}
use mathlib.Core.List.{List, []}
use native.Mathlib.Decide.{dec_lt}
use native.Mathlib.Nat.{zero-add, sub-zero}
use native.Mathlib.Omega.{arith}
use lib.Dec.{eqb, leb, leb-zero}
use lib.ListN.{length, get_or, set}
use borrow.Author.Tests.{eq-eqb, ne_eqb, le-leb, lt-leb}
use Rattle.lists.specs.Run.{each}
use Rattle.rules.specs.Table.{node_fault, leaf_fault}
use Rattle.joint_states.specs.JointStates.{joint_states}
use Rattle.joint_states.proofs.Numbered.{all-joint}
use Rattle.entries.specs.Entries.{blank_mark}
use Rattle.paths.specs.Words.{fits}
use Rattle.reading.specs.Reader.{Reader, got, turn}
use Rattle.reading.proofs.Alike.{Alike, alike_self, alike-return, alike_then, alike-finished, alike-judge, alike-cond}
use Rattle.reading.proofs.Repeats.{run-then}
use Rattle.drawn_tree.specs.Tree.{Tree, node, Trees, none, more, drawn_class, reached}
use Rattle.drawn_tree.specs.Reading.{leaf_mark, asked, tree_byte, tree_class, leaf_read, subtrees_read, node_read, tree_read}
use Rattle.drawn_tree.specs.Filling.{painted, branch_filled, leaf_drawn, node_drawn, tree_drawn}
use Rattle.drawn_tree.proofs.Asked.{Free, free-kept, fits-asked}
use Rattle.drawn_tree.proofs.Painted.{painted-twice, painted-none}

-- the table with the tree's class at every joint state of the branch
abbrev pub tree_painted : List ℕ → List ℕ → List ℕ → Tree → List ℕ
tree_painted counts marks table tree = painted (λ x. fits x marks) (drawn_class tree) (joint_states counts) table

leaf-drawn : (counts : List ℕ) (loads : ℕ) (marks table : List ℕ) → Alike (tree_painted counts marks table) (leaf_read loads) (leaf_drawn counts loads marks table)
unfolding leaf_drawn leaf_read branch_filled drawn_class
leaf-drawn counts loads marks table =
    alike_then _ (alike_self tree_class) (λ class. alike-judge (leaf_fault loads class) (λ kept. alike-return refl))

-- ---- a node

-- the subtree of state s, and after it those of the higher states: all from state s on
next-painted : (fit : Bool) (a s : ℕ) (x : List ℕ) (tree : Tree) (subtrees : Trees) (class : ℕ)
    → cond (fit && leb (s + 1) a) (reached subtrees (a - (s + 1)) x) (cond (fit && eqb s a) (drawn_class tree x) class)
    ≡ cond (fit && leb s a) (reached (more tree subtrees) (a - s) x) class
unfolding reached
next-painted false a s x tree subtrees class = refl
next-painted true a s x tree subtrees class = go (dec_lt a s) (dec_lt s a)
  where
    go : Dec (a < s) → Dec (s < a)
        → cond (leb (s + 1) a) (reached subtrees (a - (s + 1)) x) (cond (eqb s a) (drawn_class tree x) class)
        ≡ cond (leb s a) (reached (more tree subtrees) (a - s) x) class
    go (yes lower) d = rw (lt-leb (s + 1) a (omega arith), ne_eqb s a (λ same. omega arith), lt-leb s a lower)
    go (no least) (yes higher) =
        let onward : a - s ≡ suc (a - (s + 1)) = omega arith in
        rw (le-leb (s + 1) a (omega arith), le-leb s a (omega arith), onward)
    go (no least) (no most) =
        let own : a - s ≡ 0 = omega arith in
        rw (lt-leb (s + 1) a (omega arith), eq-eqb s a (omega arith), le-leb s a (omega arith), own)

module _ (counts marks : List ℕ) (component : ℕ) where
  -- the joint states of the branch in which the component has state s or a higher one
  abbrev from : ℕ → List ℕ → Bool
  from s x = fits x marks && leb s (get_or x component 0)

  -- the table with the classes of subtrees there, of which the first is that of state s
  abbrev subtrees_painted : ℕ → List ℕ → Trees → List ℕ
  subtrees_painted s table subtrees = painted (from s) (λ x. reached subtrees (get_or x component 0 - s) x) (joint_states counts) table

  all-painted : (table : List ℕ) (subtrees : Trees) → subtrees_painted 0 table subtrees ≡ tree_painted counts marks table (node component subtrees)
  unfolding drawn_class
  all-painted table subtrees =
      let every : (x : List ℕ) → from 0 x ≡ fits x marks =
      λ x. ap (λ (b : Bool). fits x marks && b) (leb-zero (get_or x component 0)) ∙ and-true (fits x marks) in
      λ i. painted (λ x. every x i) (λ x. reached subtrees (sub-zero (get_or x component 0) i) x) (joint_states counts) table

  module _ (free : Free (length counts) marks component) where
    none-painted : (s : ℕ) → get_or counts component 0 ≤ s → (table : List ℕ) (subtrees : Trees) → subtrees_painted s table subtrees ≡ table
    none-painted s past table subtrees =
        painted-none (from s) _ (joint_states counts) table
        (λ k h.
        let x = get_or (joint_states counts) k [] in
        let state = get_or x component 0 in
        rw (lt-leb s state (omega (arith, past, (all-joint counts k h).below component free.inside))) (and-false (fits x marks)))

    more-painted : (s : ℕ) → s < blank_mark → (table : List ℕ) (tree : Tree) (subtrees : Trees)
        → subtrees_painted (s + 1) (tree_painted counts (set marks component s) table tree) subtrees ≡ subtrees_painted s table (more tree subtrees)
    more-painted s small table tree subtrees =
        painted-twice (from (s + 1)) _ (from s) _ (drawn_class tree) _ (joint_states counts) table
        (λ k h class.
        let x = get_or (joint_states counts) k [] in
        let inside : component < length x = omega (arith, (all-joint counts k h).long, free.inside) in
        rw (fits-asked x marks component s inside free.free (λ blank. omega arith))
        (next-painted (fits x marks) (get_or x component 0) s x tree subtrees class))

    module _ (read : ℕ → Reader Tree) (draw : ℕ → List ℕ → Reader (List ℕ)) (few : get_or counts component 0 ≤ blank_mark)
        (drawn : (s : ℕ) (table : List ℕ) → Alike (tree_painted counts (set marks component s) table) (read s) (draw s table)) where
      subtrees-drawn : (n s : ℕ) → s + n ≡ get_or counts component 0 → (table : List ℕ)
          → Alike (subtrees_painted s table) (subtrees_read read s n) (λ bytes. each (turn draw) n s (got table bytes))
      unfolding each subtrees_read
      subtrees-drawn zero s all table = alike-return (sym (none-painted s (omega arith) table none))
      subtrees-drawn (suc n) s all table =
          record {
            alike =
                λ bytes.
                run-then draw n (s + 1) (draw s table bytes)
                ∙ (alike_then (λ table bytes. each (turn draw) n (s + 1) (got table bytes)) (drawn s table)
                (λ tree.
                alike-finished (more tree) (subtrees-drawn n (s + 1) (omega arith) (tree_painted counts (set marks component s) table tree))
                (more-painted s (omega arith) table tree))).alike bytes;
          }

node-drawn : (counts marks : List ℕ) (component : ℕ) (read : ℕ → Reader Tree) (draw : ℕ → List ℕ → Reader (List ℕ)) → get_or counts component 0 ≤ blank_mark
    → ((s : ℕ) (table : List ℕ) → Alike (tree_painted counts (set marks component s) table) (read s) (draw s table)) → (table : List ℕ)
    → Alike (tree_painted counts marks table) (node_read counts marks component read) (node_drawn counts marks component draw table)
unfolding node_drawn node_read
node-drawn counts marks component read draw few drawn table =
    alike-judge (node_fault (length counts) component (asked marks component))
    (λ kept.
    let free = free-kept (length counts) marks component kept in
    let states = get_or counts component 0 in
    alike-finished (node component) (subtrees-drawn counts marks component free read draw few drawn states 0 (zero-add states) table)
    (all-painted counts marks component table))

-- ---- the tree

pub tree-drawn : (counts : List ℕ) (loads : ℕ) → ((k : ℕ) → get_or counts k 0 ≤ blank_mark) → (levels : ℕ) (marks table : List ℕ)
    → Alike (tree_painted counts marks table) (tree_read counts loads levels marks) (tree_drawn counts loads levels marks table)
unfolding tree_drawn tree_read
tree-drawn counts loads few zero marks table = record { alike = λ bytes. refl }
tree-drawn counts loads few (suc levels) marks table =
    record {
      alike =
          λ bytes.
          (alike_then _ (alike_self tree_byte)
          (λ first.
          alike-cond (eqb first leaf_mark) (leaf-drawn counts loads marks table)
          (node-drawn counts marks first _ _ (few first) (λ s table. tree-drawn counts loads few levels (set marks first s) table) table))).alike bytes;
    }

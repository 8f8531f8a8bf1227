-- The tree that is read has the bytes that were given. What carries it: each reader takes the bytes of what it gives (`Spells`), and nothing may follow
-- the tree.
use Prim.Native.Nat.{ℕ, zero, suc, ◌+◌}
use mathlib.Core.Path.{◌≡◌, refl, sym, ap, ◌∙◌}
use mathlib.Core.List.{List, [], ◌∷◌, append-nil}
use native.Mathlib.Omega.{arith}
use lib.Dec.{eqb}
use lib.ListN.{length, get_or, set}
use borrow.Author.Tests.{eqb-true}
use Rattle.rules.specs.Limits.{most_components}
use Rattle.rules.specs.Table.{node_fault, bad_end, leaf_fault}
use Rattle.reading.specs.Reader.{Read, refused, got, Reader, and_then}
use Rattle.entries.specs.Entries.{class_code}
use Rattle.entries.proofs.ClassReading.{spells-class}
use Rattle.reading.proofs.Spelled.{SpelledIn, Spells, spells_then, spells-return, spells-byte, spells-judge, spells-cond}
use Rattle.drawn_tree.specs.Tree.{Tree}
use Rattle.drawn_tree.specs.Reading.{leaf_mark, nothing_asked, asked, leaf_read, subtrees_read, node_read, tree_read, ended, drawn_read}
use Rattle.drawn_tree.specs.Drawn.{tree_in, drawn_fault, drawn_tree}
use Rattle.drawn_tree.specs.Laws.{tree_bytes, trees_bytes, ReadsBack}
use Rattle.drawn_tree.proofs.FirstBreach.{fault_of, some-behind}
use Rattle.drawn_tree.proofs.Judged.{Judged, tree-judged}

spells-leaf : (loads first : ℕ) → first ≡ leaf_mark → Spells (first ∷ []) (leaf_read loads) tree_bytes
unfolding leaf_read tree_bytes
spells-leaf loads first is =
    spells_then (spells-class bad_end)
    (λ class. spells-judge (leaf_fault loads class) (spells-return (ap (λ (b : ℕ). b ∷ class_code class) (sym is))))

spells-subtrees : (read : ℕ → Reader Tree) → ((s : ℕ) → Spells [] (read s) tree_bytes) → (s n : ℕ) → Spells [] (subtrees_read read s n) trees_bytes
unfolding subtrees_read trees_bytes
spells-subtrees read each s zero = spells-return refl
spells-subtrees read each s (suc n) =
    spells_then (each s) (λ tree. spells_then (spells-subtrees read each (s + 1) n) (λ subtrees. spells-return refl))

spells-node : (counts marks : List ℕ) (component : ℕ) (read : ℕ → Reader Tree) → ((s : ℕ) → Spells [] (read s) tree_bytes)
    → Spells (component ∷ []) (node_read counts marks component read) tree_bytes
unfolding node_read tree_bytes
spells-node counts marks component read each =
    spells-judge (node_fault (length counts) component (asked marks component))
    (spells_then (spells-subtrees read each 0 (get_or counts component 0)) (λ subtrees. spells-return refl))

spells-tree : (counts : List ℕ) (loads levels : ℕ) (marks : List ℕ) → Spells [] (tree_read counts loads levels marks) tree_bytes
unfolding tree_read
spells-tree counts loads zero marks = record { spells = λ bytes. tt }
spells-tree counts loads (suc levels) marks =
    record {
      spells =
          λ bytes.
          (spells_then {front = []} (spells-byte bad_end)
          (λ first.
          spells-cond (eqb first leaf_mark) (λ is. spells-leaf loads first (eqb-true first leaf_mark is))
          (λ is. spells-node counts marks first _ (λ s. spells-tree counts loads levels (set marks first s))))).spells bytes;
    }

read_whole : (tree : Tree) → tree_in (ended tree []) ≡ tree
unfolding ended
read_whole tree = refl

pub reads-back : ReadsBack
unfolding drawn_fault drawn_tree drawn_read
reads-back counts loads bytes done =
    let levels = suc most_components in
    go (tree_read counts loads levels nothing_asked bytes) ((spells-tree counts loads levels nothing_asked).spells bytes)
    (tree-judged counts loads levels nothing_asked bytes) done
  where
    go : (r : Read Tree) → SpelledIn tree_bytes bytes r → Judged loads r → fault_of r ≡ 0 → tree_bytes (tree_in (and_then r ended)) ≡ bytes
    go (refused n) e row kept = absurd (omega (arith, row.least, kept))
    go (got tree []) e row kept = ap tree_bytes (read_whole tree) ∙ sym (append-nil (tree_bytes tree)) ∙ e
    go (got tree (b ∷ rest)) e row kept = absurd (omega (arith, sym kept ∙ some-behind tree b rest))

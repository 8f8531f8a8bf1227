-- An induction over the tree that is read: what holds of each leaf whose class is let through, and of each node over what holds of its subtrees, holds of
-- the whole tree. The marks of the branch go along.
use Prim.Native.Nat.{ℕ, zero, suc, ◌+◌}
use mathlib.Core.Path.{◌≡◌}
use mathlib.Core.List.{List}
use native.Mathlib.Omega.{arith}
use lib.Dec.{eqb}
use lib.ListN.{length, get_or, set}
use Rattle.rules.specs.Limits.{most_components}
use Rattle.rules.specs.Table.{node_fault, bad_end, behind_fault, leaf_fault}
use Rattle.reading.specs.Reader.{Read, refused, got, Reader, byte_or}
use Rattle.reading.proofs.Held.{Held, Gives, held, gives-any, gives_then, gives-return, gives-judge, gives-cond}
use Rattle.drawn_tree.specs.Drawn.{fault_in, tree_in, drawn_fault, drawn_tree}
use Rattle.drawn_tree.specs.Reading.{leaf_mark, nothing_asked, asked, tree_class, leaf_read, subtrees_read, node_read, tree_read, ended, drawn_read}
use Rattle.drawn_tree.specs.Tree.{Tree, leaf, node, Trees, none, more}
use Rattle.drawn_tree.proofs.Judged.{Judged, drawn-judged}

-- n subtrees from state s on, of each of which P holds at its state
pub data EachSubtree (P : ℕ → Tree → Type 0) : ℕ → ℕ → Trees → Type 0 where
  no_more : {s : ℕ} → EachSubtree P s zero none
  one_more : {s n : ℕ} {tree : Tree} {subtrees : Trees} → P s tree → EachSubtree P (s + 1) n subtrees → EachSubtree P s (suc n) (more tree subtrees)

-- what is to be shown of P, which may speak of the marks of the branch above
pub record Steps (counts : List ℕ) (loads : ℕ) (P : List ℕ → Tree → Type 0) : Type 0 where
  pub at_leaf : (marks : List ℕ) (class : ℕ) → leaf_fault loads class ≡ 0 → P marks (leaf class)
  pub at_node : (marks : List ℕ) (component : ℕ) (subtrees : Trees) → node_fault (length counts) component (asked marks component) ≡ 0
      → EachSubtree (λ (s : ℕ). P (set marks component s)) 0 (get_or counts component 0) subtrees → P marks (node component subtrees)

module _ (counts : List ℕ) (loads : ℕ) (P : List ℕ → Tree → Type 0) (steps : Steps counts loads P) where
  gives-leaf : (marks : List ℕ) → Gives (leaf_read loads) (P marks)
  unfolding leaf_read
  gives-leaf marks =
      gives_then (gives-any tree_class)
      (λ class u. gives-judge (leaf_fault loads class) (λ kept. gives-return (steps.at_leaf marks class kept)))

  gives-subtrees : (Q : ℕ → Tree → Type 0) (read : ℕ → Reader Tree) → ((s : ℕ) → Gives (read s) (Q s)) → (s n : ℕ)
      → Gives (subtrees_read read s n) (EachSubtree Q s n)
  unfolding subtrees_read
  gives-subtrees Q read each s zero = gives-return no_more
  gives-subtrees Q read each s (suc n) =
      gives_then (each s) (λ tree one. gives_then (gives-subtrees Q read each (s + 1) n) (λ subtrees rest. gives-return (one_more one rest)))

  gives-node : (marks : List ℕ) (component : ℕ) (read : ℕ → Reader Tree) → ((s : ℕ) → Gives (read s) (P (set marks component s)))
      → Gives (node_read counts marks component read) (P marks)
  unfolding node_read
  gives-node marks component read each =
      gives-judge (node_fault (length counts) component (asked marks component))
      (λ kept.
      gives_then (gives-subtrees (λ (s : ℕ). P (set marks component s)) read each 0 (get_or counts component 0))
      (λ subtrees rest. gives-return (steps.at_node marks component subtrees kept rest)))

  gives-tree : (levels : ℕ) (marks : List ℕ) → Gives (tree_read counts loads levels marks) (P marks)
  unfolding tree_read
  gives-tree zero marks = record { gives = λ n. record { ends = λ bytes e. tt } }
  gives-tree (suc levels) marks =
      record {
        gives =
            λ n.
            record {
              ends =
                  λ bytes e.
                  ((gives_then (gives-any (byte_or bad_end))
                  (λ first u.
                  gives-cond (eqb first leaf_mark) (λ is. gives-leaf marks)
                  (λ is. gives-node marks first _ (λ s. gives-tree levels (set marks first s))))).gives n).ends bytes e;
            };
      }

  gives-ended : (tree : Tree) → P nothing_asked tree → Gives (ended tree) (P nothing_asked)
  unfolding ended
  gives-ended tree holds =
      record { gives = λ n. record { ends = λ rest e. ((gives-judge (behind_fault (length rest)) (λ kept. gives-return holds)).gives n).ends rest e } }

  gives-drawn : Gives (drawn_read counts loads) (P nothing_asked)
  unfolding drawn_read
  gives-drawn = gives_then (gives-tree (suc most_components) nothing_asked) gives-ended

  pub drawn-holds : (bytes : List ℕ) → drawn_fault counts loads bytes ≡ 0 → P nothing_asked (drawn_tree counts loads bytes)
  unfolding drawn_fault drawn_tree
  drawn-holds bytes done = go (drawn_read counts loads bytes) (held gives-drawn bytes) (drawn-judged counts loads bytes) done
    where
      go : (r : Read Tree) → Held (P nothing_asked) r → Judged loads r → fault_in r ≡ 0 → P nothing_asked (tree_in r)
      go (refused n) holds row is = absurd (omega (arith, row.least, is))
      go (got tree rest) holds bounded is = holds

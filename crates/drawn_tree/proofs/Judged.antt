-- Bytes are refused by one of the rows 20 to 22, or the tree that they draw bears no load beyond the study's. What carries both: each reader ends in
-- the one or the other (`Ends`).
use Prim.Native.Nat.{ℕ, zero, suc, ◌+◌, ◌/◌, ◌^◌}
use mathlib.Core.Path.{◌≡◌, refl, sym}
use mathlib.Core.Bool.{Bool, true, false}
use mathlib.Core.List.{List}
use native.Mathlib.Nat.{zero-div}
use native.Mathlib.Omega.{arith}
use lib.Dec.{eqb}
use lib.ListN.{length, get_or, set}
use Rattle.lists.proofs.Digits.{no-bit-above}
use Rattle.rules.specs.Breach.{refuse}
use Rattle.rules.specs.Limits.{most_components}
use Rattle.rules.specs.Table.{node_fault, bad_end, behind_fault, leaf_fault}
use Rattle.rules.proofs.Rows.{leaf-kept}
use Rattle.reading.specs.Reader.{Read, refused, got, Reader}
use Rattle.entries.proofs.ClassReading.{ends-class}
use Rattle.reading.proofs.Ends.{EndsIn, Ends, ends-then, ends_return, ends-byte-or, ends-judge, ends-cond}
use Rattle.drawn_tree.specs.Tree.{Tree, Trees, none, more, drawn_class, reached}
use Rattle.drawn_tree.specs.Reading.{leaf_mark, nothing_asked, asked, leaf_read, subtrees_read, node_read, tree_read, ended, drawn_read}
use Rattle.drawn_tree.specs.Drawn.{fault_in, tree_in, drawn_fault, drawn_tree}
use Rattle.drawn_tree.specs.Laws.{DrawnRow, DrawnRows, NoLoadBeyond}

-- ---- the rows

row-broken : (number : ℕ) (broken : Bool) → DrawnRow number → (refuse number broken ≡ 0 → ⊥) → DrawnRow (refuse number broken)
unfolding refuse
row-broken number true row some = row
row-broken number false row some = absurd (some refl)

node_row : DrawnRow 20
node_row = record { least = omega arith; most = omega arith }

end_row : DrawnRow bad_end
end_row = record { least = omega arith; most = omega arith }

leaf-row : DrawnRow 22
leaf-row = record { least = omega arith; most = omega arith }

node-broken : (components component : ℕ) (above : Bool) → (node_fault components component above ≡ 0 → ⊥) → DrawnRow (node_fault components component above)
node-broken components component above = row-broken _ _ node_row

behind-broken : (bytes : ℕ) → (behind_fault bytes ≡ 0 → ⊥) → DrawnRow (behind_fault bytes)
behind-broken bytes = row-broken _ _ end_row

leaf-broken : (loads class : ℕ) → (leaf_fault loads class ≡ 0 → ⊥) → DrawnRow (leaf_fault loads class)
leaf-broken loads class = row-broken _ _ leaf-row

-- ---- the readers

-- no class that is reached has a bit from the load count on
abbrev Bounded : ℕ → Tree → Type 0
Bounded loads tree = (x : List ℕ) → drawn_class tree x / 2 ^ loads ≡ 0

abbrev AllBounded : ℕ → Trees → Type 0
AllBounded loads subtrees = (s : ℕ) (x : List ℕ) → reached subtrees s x / 2 ^ loads ≡ 0

none-bounded : (loads : ℕ) → AllBounded loads none
unfolding reached
none-bounded loads s x = zero-div (2 ^ loads)

more-bounded : (loads : ℕ) (tree : Tree) (subtrees : Trees) → Bounded loads tree → AllBounded loads subtrees → AllBounded loads (more tree subtrees)
unfolding reached
more-bounded loads tree subtrees first rest zero x = first x
more-bounded loads tree subtrees first rest (suc s) x = rest s x

module _ (counts : List ℕ) (loads : ℕ) where
  ends-leaf : (n : ℕ) → Ends DrawnRow n (leaf_read loads) (λ tree left. Bounded loads tree)
  unfolding leaf_read drawn_class
  ends-leaf n =
      ends-then (ends-class bad_end end_row)
      (λ class left u. ends-judge (leaf_fault loads class) (leaf-broken loads class) (λ kept. ends_return (λ x. leaf-kept loads class kept)))

  ends-subtrees : (read : ℕ → Reader Tree) → ((s n : ℕ) → Ends DrawnRow n (read s) (λ tree left. Bounded loads tree)) → (s k n : ℕ)
      → Ends DrawnRow n (subtrees_read read s k) (λ subtrees left. AllBounded loads subtrees)
  unfolding subtrees_read
  ends-subtrees read each s zero n = ends_return (none-bounded loads)
  ends-subtrees read each s (suc k) n =
      ends-then (each s n)
      (λ tree left first.
      ends-then (ends-subtrees read each (s + 1) k left) (λ subtrees left rest. ends_return (more-bounded loads tree subtrees first rest)))

  ends-node : (marks : List ℕ) (component : ℕ) (read : ℕ → Reader Tree) → ((s n : ℕ) → Ends DrawnRow n (read s) (λ tree left. Bounded loads tree)) → (n : ℕ)
      → Ends DrawnRow n (node_read counts marks component read) (λ tree left. Bounded loads tree)
  unfolding node_read drawn_class
  ends-node marks component read each n =
      ends-judge (node_fault (length counts) component (asked marks component)) (node-broken _ component _)
      (λ kept. ends-then (ends-subtrees read each 0 (get_or counts component 0) n) (λ subtrees left rest. ends_return (λ x. rest (get_or x component 0) x)))

  ends-tree : (levels : ℕ) (marks : List ℕ) (n : ℕ) → Ends DrawnRow n (tree_read counts loads levels marks) (λ tree left. Bounded loads tree)
  unfolding tree_read
  ends-tree zero marks n = record { ends = λ bytes e. node_row }
  ends-tree (suc levels) marks n =
      record {
        ends =
            λ bytes e.
            (ends-then (ends-byte-or bad_end n (λ few. end_row))
            (λ first left taken.
            ends-cond (eqb first leaf_mark) (λ is. ends-leaf left)
            (λ is. ends-node marks first _ (λ s n. ends-tree levels (set marks first s) n) left))).ends bytes e;
      }

  ends-drawn : (n : ℕ) → Ends DrawnRow n (drawn_read counts loads) (λ tree left. Bounded loads tree)
  unfolding drawn_read ended
  ends-drawn n =
      ends-then (ends-tree (suc most_components) nothing_asked n)
      (λ tree left bounded.
      record {
        ends =
            λ rest e.
            (ends-judge {P = λ tree left. Bounded loads tree} (behind_fault (length rest)) (behind-broken (length rest)) (λ kept. ends_return bounded)).ends
            rest e;
      })

-- ---- the laws

-- a reading is refused by one of the rows, or gives a tree that bears no load beyond
abbrev pub Judged : ℕ → Read Tree → Type 0
Judged loads r = EndsIn DrawnRow (λ tree left. Bounded loads tree) r

pub tree-judged : (counts : List ℕ) (loads levels : ℕ) (marks bytes : List ℕ) → Judged loads (tree_read counts loads levels marks bytes)
tree-judged counts loads levels marks bytes = (ends-tree counts loads levels marks (length bytes)).ends bytes refl

pub drawn-judged : (counts : List ℕ) (loads : ℕ) (bytes : List ℕ) → Judged loads (drawn_read counts loads bytes)
drawn-judged counts loads bytes = (ends-drawn counts loads (length bytes)).ends bytes refl

pub drawn-rows : DrawnRows
unfolding drawn_fault
drawn-rows counts loads bytes n e some = go (drawn_read counts loads bytes) (drawn-judged counts loads bytes) e
  where
    go : (r : Read Tree) → Judged loads r → fault_in r ≡ n → DrawnRow n
    go (refused k) row is = rw is at row
    go (got tree rest) bounded is = absurd (some (sym is))

pub no-load-beyond : NoLoadBeyond
unfolding drawn_tree drawn_class
no-load-beyond counts loads bytes x j h =
    no-bit-above (drawn_class (drawn_tree counts loads bytes) x) loads j
    (go (drawn_read counts loads bytes) (drawn-judged counts loads bytes)) h
  where
    go : (r : Read Tree) → Judged loads r → drawn_class (tree_in r) x / 2 ^ loads ≡ 0
    go (refused k) row = zero-div (2 ^ loads)
    go (got tree rest) bounded = bounded x

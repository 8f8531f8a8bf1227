-- A drawn tree is refused by the first breach from the left. What carries it: every reader is local, so that what a front part gives stands whatever
-- bytes follow, unless the front part ends inside the tree.
use Prim.Native.Nat.{ℕ, zero, suc, ◌+◌}
use mathlib.Core.Path.{◌≡◌, refl, sym, ap, ◌∙◌}
use mathlib.Core.List.{List, [], ◌∷◌, ◌++◌}
use mathlib.Core.Logic.{inl, inr}
use native.Mathlib.Nat.{zero-lt-suc}
use native.Mathlib.Omega.{arith}
use lib.Dec.{eqb}
use lib.ListN.{length, get_or, set}
use borrow.Author.Tests.{lt-ltb}
use Rattle.rules.specs.Breach.{refuse}
use Rattle.rules.specs.Limits.{most_components}
use Rattle.rules.specs.Table.{node_fault, bad_end, leaf_fault}
use Rattle.reading.specs.Reader.{Read, refused, got, Reader, and_then}
use Rattle.entries.proofs.ClassReading.{local-class}
use Rattle.reading.proofs.Local.{Local, Stands, local-then, local-return, local-judge, local-judged, local-byte-or, local-cond}
use Rattle.drawn_tree.specs.Tree.{Tree, leaf, node, more}
use Rattle.drawn_tree.specs.Reading.{leaf_mark, nothing_asked, asked, leaf_read, subtrees_read, node_read, tree_read, ended, drawn_read}
use Rattle.drawn_tree.specs.Drawn.{fault_in, drawn_fault}
use Rattle.drawn_tree.specs.Laws.{DrawnReads}
use Rattle.drawn_tree.proofs.Judged.{Judged, tree-judged}

-- ---- every reader is local

local-leaf : (loads : ℕ) → Local bad_end (leaf_read loads)
unfolding leaf_read
local-leaf loads = local-judged (leaf_fault loads) leaf (local-class bad_end)

local-subtrees : (read : ℕ → Reader Tree) → ((s : ℕ) → Local bad_end (read s)) → (s n : ℕ) → Local bad_end (subtrees_read read s n)
unfolding subtrees_read
local-subtrees read each s zero = local-return _
local-subtrees read each s (suc n) =
    local-then (each s) (λ tree. local-then (local-subtrees read each (s + 1) n) (λ subtrees. local-return (more tree subtrees)))

local-node : (counts marks : List ℕ) (component : ℕ) (read : ℕ → Reader Tree) → ((s : ℕ) → Local bad_end (read s))
    → Local bad_end (node_read counts marks component read)
unfolding node_read
local-node counts marks component read each =
    local-then (local-judge (node_fault (length counts) component (asked marks component)))
    (λ u. local-then (local-subtrees read each 0 (get_or counts component 0)) (λ subtrees. local-return (node component subtrees)))

local-tree : (counts : List ℕ) (loads levels : ℕ) (marks : List ℕ) → Local bad_end (tree_read counts loads levels marks)
unfolding tree_read
local-tree counts loads zero marks = record { stands = λ xs ys. inr refl }
local-tree counts loads (suc levels) marks =
    record {
      stands =
          λ xs ys.
          (local-then (local-byte-or bad_end)
          (λ first.
          local-cond (eqb first leaf_mark) (local-leaf loads)
          (local-node counts marks first _ (λ s. local-tree counts loads levels (set marks first s))))).stands xs ys;
    }

-- ---- what is answered to a front part; no reader refuses by 0 (`Judged`)

-- the breach of a tree that was read, and of the bytes behind it
abbrev pub fault_of : Read Tree → ℕ
fault_of r = fault_in (and_then r ended)

none_behind : (tree : Tree) → fault_of (got tree []) ≡ 0
unfolding ended refuse
none_behind tree = refl

pub some-behind : (tree : Tree) (b : ℕ) (rest : List ℕ) → fault_of (got tree (b ∷ rest)) ≡ bad_end
unfolding ended refuse
some-behind tree b rest = rw (lt-ltb 0 (suc (length rest)) (zero-lt-suc (length rest)))

-- a front part that is refused by another row than 21 decides
decides : (rest : List ℕ) (r r' : Read Tree) → Stands bad_end rest r r' → (n : ℕ) → fault_of r ≡ n → (n ≡ 0 → ⊥) → (n ≡ bad_end → ⊥) → fault_of r' ≡ n
decides rest r r' (inl e) n is some other = absurd (other (sym is ∙ ap fault_of e))
decides rest (refused m) r' (inr e) n is some other = ap fault_of e ∙ is
decides rest (got tree []) r' (inr e) n is some other = absurd (some (sym is ∙ none_behind tree))
decides rest (got tree (b ∷ bs)) r' (inr e) n is some other = absurd (other (sym is ∙ some-behind tree b bs))

module _ (loads : ℕ) where
  -- a strict front part of a tree ends inside it
  shortens : (rest : List ℕ) (r r' : Read Tree) → Stands bad_end rest r r' → Judged loads r → fault_of r' ≡ 0 → (rest ≡ [] → ⊥) → fault_of r ≡ bad_end
  shortens rest r r' (inl e) row done some = ap fault_of e
  shortens rest (refused m) r' (inr e) row done some = absurd (omega (arith, row.least, ap fault_of e, done))
  shortens [] (got tree []) r' (inr e) row done some = absurd (some refl)
  shortens (b ∷ bs) (got tree []) r' (inr e) row done some = absurd (omega (arith, sym done ∙ ap fault_of e ∙ some-behind tree b bs))
  shortens rest (got tree (b ∷ bs)) r' (inr e) row done some = some-behind tree b bs

  -- bytes behind a tree
  follows : (rest : List ℕ) (r r' : Read Tree) → Stands bad_end rest r r' → Judged loads r → fault_of r ≡ 0 → (rest ≡ [] → ⊥) → fault_of r' ≡ bad_end
  follows rest r r' (inl e) row done some = absurd (omega (arith, sym done ∙ ap fault_of e))
  follows rest (refused m) r' (inr e) row done some = absurd (omega (arith, row.least, done))
  follows [] (got tree []) r' (inr e) row done some = absurd (some refl)
  follows (b ∷ bs) (got tree []) r' (inr e) row done some = ap fault_of e ∙ some-behind tree b bs
  follows rest (got tree (b ∷ bs)) r' (inr e) row done some = absurd (omega (arith, sym done ∙ some-behind tree b bs))

pub drawn-reads : DrawnReads
unfolding drawn_fault drawn_read
drawn-reads counts loads =
    let read : List ℕ → Read Tree = tree_read counts loads (suc most_components) nothing_asked in
    let local = local-tree counts loads (suc most_components) nothing_asked in
    let row = tree-judged counts loads (suc most_components) nothing_asked in
    record {
      decided = λ front rest. decides rest (read front) (read (front ++ rest)) (local.stands front rest);
      too_short = λ front rest. shortens loads rest (read front) (read (front ++ rest)) (local.stands front rest) (row front);
      behind = λ front rest. follows loads rest (read front) (read (front ++ rest)) (local.stands front rest) (row front);
    }

-- The levels of reading are no limit: any numbers of levels above the components left to ask read alike, since each level below a node has one
-- component fewer to ask.
use Prim.Native.Nat.{ℕ, zero, suc, ◌+◌, ◌<◌, ◌≤◌}
use mathlib.Core.Path.{◌≡◌, refl}
use mathlib.Core.List.{List}
use native.Mathlib.Omega.{arith}
use lib.Dec.{eqb}
use lib.ListN.{length, get_or, set}
use Rattle.rules.specs.Limits.{most_components}
use Rattle.rules.specs.Table.{node_fault}
use Rattle.entries.specs.Entries.{blank_mark}
use Rattle.reading.specs.Reader.{Reader}
use Rattle.reading.proofs.Alike.{Alike, alike_self, alike_same, alike-return, alike_then, alike-judge, alike-cond}
use Rattle.drawn_tree.specs.Tree.{Tree}
use Rattle.drawn_tree.specs.Reading.{leaf_mark, nothing_asked, asked, tree_byte, leaf_read, subtrees_read, node_read, tree_read}
use Rattle.drawn_tree.specs.Filling.{unasked}
use Rattle.drawn_tree.specs.Laws.{EnoughLevels}
use Rattle.drawn_tree.proofs.Asked.{free-kept, unasked-less}

-- two readers of the same
abbrev Same : {A : Type 0} → Reader A → Reader A → Type 0
Same m k = Alike (λ a. a) m k

subtrees-same : (f g : ℕ → Reader Tree) (s n : ℕ) → ((k : ℕ) → k < s + n → Same (f k) (g k)) → Same (subtrees_read f s n) (subtrees_read g s n)
unfolding subtrees_read
subtrees-same f g s zero each = alike-return refl
subtrees-same f g s (suc n) each =
    alike_then _ (each s (omega arith))
    (λ tree. alike_then _ (subtrees-same f g (s + 1) n (λ k less. each k (omega arith))) (λ subtrees. alike-return refl))

node-same : (counts marks : List ℕ) (component : ℕ) (f g : ℕ → Reader Tree)
    → (get_or marks component 0 ≡ blank_mark → (s : ℕ) → s < get_or counts component 0 → Same (f s) (g s))
    → Same (node_read counts marks component f) (node_read counts marks component g)
unfolding node_read
node-same counts marks component f g each =
    alike-judge (node_fault (length counts) component (asked marks component))
    (λ kept.
    let free = free-kept (length counts) marks component kept in
    alike_then _ (subtrees-same f g 0 (get_or counts component 0) (λ s less. each free.free s (omega arith))) (λ subtrees. alike-return refl))

tree-same : (counts : List ℕ) (loads : ℕ) → ((k : ℕ) → get_or counts k 0 ≤ blank_mark) → (l m : ℕ) (marks : List ℕ) → unasked marks < l → unasked marks < m
    → Same (tree_read counts loads l marks) (tree_read counts loads m marks)
unfolding tree_read
tree-same counts loads few zero m marks enough more = absurd (omega arith)
tree-same counts loads few (suc l) zero marks enough more = absurd (omega arith)
tree-same counts loads few (suc l) (suc m) marks enough more =
    record {
      alike =
          λ bytes.
          (alike_then _ (alike_self tree_byte)
          (λ first.
          alike-cond (eqb first leaf_mark) (alike_self (leaf_read loads))
          (node-same counts marks first _ _
          (λ free s less.
          let fewer = unasked-less marks first s free (λ blank. omega (arith, blank, less, few first)) in
          tree-same counts loads few l m (set marks first s) (omega arith) (omega arith))))).alike bytes;
    }

pub enough-levels : EnoughLevels
unfolding unasked nothing_asked
enough-levels counts loads few beyond bytes =
    alike_same (tree-same counts loads few (suc most_components) (suc most_components + beyond) nothing_asked (omega arith) (omega arith)) bytes

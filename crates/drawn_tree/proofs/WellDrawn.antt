-- The bytes that are let through are those of the well-drawn trees. What carries it: the marks of a branch are blank exactly at the components that it has
-- not asked (`Marked`); one way by induction over the tree that is read, the other by recursion over the tree that is drawn.
use Prim.Native.Nat.{ℕ, zero, suc, ◌+◌, ◌*◌, ◌/◌, ◌^◌, ◌<◌, ◌≤◌}
use mathlib.Core.Path.{◌≡◌, refl, sym, ap, ◌∙◌}
use mathlib.Core.Bool.{Bool, true, false}
use mathlib.Core.List.{List, [], ◌∷◌, ◌++◌, append_assoc, append-nil}
use mathlib.Core.Logic.{inl, inr}
use native.Mathlib.Nat.{div-lt_iff_lt-mul, div-eq_of_lt}
use native.Mathlib.Omega.{arith}
use lib.Dec.{eqb}
use lib.ListN.{length, get_or, set, length-set, get_or-replicate}
use lib.Pow.{pow_pos}
use lib.Seq.{get_or-set_same, get_or-set_other}
use borrow.Author.Tests.{eqb-true, eqb-false, eq-eqb, ne_eqb, lt-leb}
use Rattle.lists.specs.OneOf.{OneOf}
use Rattle.rules.specs.Breach.{refuse}
use Rattle.rules.specs.Limits.{most_components}
use Rattle.rules.specs.Table.{bad_end, leaf_fault}
use Rattle.rules.proofs.Rows.{leaf-kept}
use Rattle.entries.specs.Entries.{blank_mark, class_code}
use Rattle.entries.proofs.ClassReading.{back-class}
use Rattle.reading.specs.Reader.{Read, got, and_then, byte_or}
use Rattle.reading.proofs.Back.{Back, back-judged}
use Rattle.drawn_tree.specs.Drawn.{fault_in, tree_in, drawn_fault, drawn_tree}
use Rattle.drawn_tree.specs.Filling.{unasked}
use Rattle.drawn_tree.specs.Laws.{tree_bytes, trees_bytes}
use Rattle.drawn_tree.specs.Reading.{leaf_mark, nothing_asked, leaf_read, subtrees_read, node_read, tree_read, ended, drawn_read}
use Rattle.drawn_tree.specs.Tree.{Tree, leaf, Trees}
use Rattle.drawn_tree.specs.WellDrawn.{WellDrawn, a_leaf, a_node, EachDrawn, no_more, one_more, WholeDrawn, Accepts}
use Rattle.drawn_tree.proofs.Asked.{free-kept, unasked-less}
use Rattle.drawn_tree.proofs.Induction.{EachSubtree, no_more as none_behind, one_more as one-behind, Steps, drawn-holds}
use Rattle.drawn_tree.proofs.ReadsBack.{reads-back}

-- ---- the marks of a branch

-- they are blank at the components that are not among those asked above, and at no others
pub record Marked (components : ℕ) (above marks : List ℕ) : Type 0 where
  pub places : components ≤ length marks
  pub blank : (k : ℕ) → k < components → get_or marks k 0 ≡ blank_mark → OneOf above k → ⊥
  pub free : (k : ℕ) → k < components → (OneOf above k → ⊥) → get_or marks k 0 ≡ blank_mark

-- one component more is asked
marked_more : (components : ℕ) (above marks : List ℕ) (component s : ℕ) → component < components → (s ≡ blank_mark → ⊥) → Marked components above marks
    → Marked components (component ∷ above) (set marks component s)
marked_more components above marks component s inside state marked =
    record {
      places = rw (length-set marks component s) marked.places;
      blank = λ k h. blank k h (eqb k component) refl;
      free = λ k h new. get_or-set_other marks component k s 0 (λ same. new (inl same)) ∙ marked.free k h (λ old. new (inr old));
    }
  where
    blank : (k : ℕ) → k < components → (b : Bool) → eqb k component ≡ b → get_or (set marks component s) k 0 ≡ blank_mark → OneOf (component ∷ above) k → ⊥
    blank k h true e is new =
        state (sym (get_or-set_same marks component s 0 (omega (arith, marked.places)))
        ∙ ap (λ (i : ℕ). get_or (set marks component s) i 0) (sym (eqb-true k component e)) ∙ is)
    blank k h false e is (inl same) = eqb-false k component e same
    blank k h false e is (inr old) =
        marked.blank k h (sym (get_or-set_other marks component k s 0 (eqb-false k component e)) ∙ is) old

-- 22 lets through the classes of so many loads
class-small : (loads class : ℕ) → class / 2 ^ loads ≡ 0 → class < 2 ^ loads
class-small loads class no_bits =
    let less : class < 1 * 2 ^ loads = (div-lt_iff_lt-mul (pow_pos loads)).0 (rw no_bits (omega arith)) in
    omega (arith, less)

module _ (counts : List ℕ) (loads : ℕ) (few : length counts ≤ most_components) (states : (k : ℕ) → get_or counts k 0 ≤ blank_mark) where
  nothing-marked : Marked (length counts) [] nothing_asked
  unfolding nothing_asked
  nothing-marked =
      record { places = few; blank = λ k h is old. old; free = λ k h new. get_or-replicate {A = ℕ} most_components k blank_mark 0 (omega (arith, few)) }

  -- no state is taken for the blank mark
  state-marked : (component s : ℕ) → s < get_or counts component 0 → s ≡ blank_mark → ⊥
  state-marked component s h blank = omega (arith, blank, h, states component)

  -- ---- a tree that is read is well drawn

  -- below any branch that has these marks
  abbrev Drawn : List ℕ → Tree → Type 0
  Drawn marks tree = (above : List ℕ) → Marked (length counts) above marks → WellDrawn counts loads above tree

  -- each subtree below a component that is asked
  each-drawn : (component : ℕ) (above marks : List ℕ) → component < length counts → Marked (length counts) above marks → {s n : ℕ} {subtrees : Trees}
      → EachSubtree (λ (k : ℕ). Drawn (set marks component k)) s n subtrees → s + n ≤ get_or counts component 0
      → EachDrawn counts loads (component ∷ above) n subtrees
  each-drawn component above marks inside marked none_behind last = no_more
  each-drawn component above marks inside marked (one-behind {s} one rest) last =
      one_more
      (one (component ∷ above) (marked_more _ above marks component s inside (state-marked component s (omega arith)) marked))
      (each-drawn component above marks inside marked rest (omega arith))

  drawn-steps : Steps counts loads Drawn
  drawn-steps =
      record {
        at_leaf = λ marks class kept above marked. a_leaf (class-small loads class (leaf-kept loads class kept));
        at_node =
            λ marks component subtrees kept each above marked.
            let free = free-kept (length counts) marks component kept in
            a_node free.inside (marked.blank component free.inside free.free)
            (each-drawn component above marks free.inside marked each (omega arith));
      }

  drawn-well : (bytes : List ℕ) → drawn_fault counts loads bytes ≡ 0 → WholeDrawn counts loads (drawn_tree counts loads bytes)
  drawn-well bytes done = drawn-holds counts loads Drawn drawn-steps bytes done [] nothing-marked

  -- ---- a well-drawn tree is read

  leaf-back : (class : ℕ) → class < 2 ^ loads → Back (leaf_read loads) (class_code class) (leaf class)
  unfolding leaf_read
  leaf-back class small =
      let no_bits : class / 2 ^ loads ≡ 0 = div-eq_of_lt small in
      back-judged (leaf_fault loads) leaf (rw no_bits refl) (back-class bad_end class)

  mutual
    unfolding tree_read tree_bytes leaf_read node_read refuse byte_or subtrees_read

    read-tree : {above : List ℕ} {tree : Tree} → WellDrawn counts loads above tree → (levels : ℕ) (marks rest : List ℕ) → Marked (length counts) above marks
        → unasked marks < levels → tree_read counts loads levels marks (tree_bytes tree ++ rest) ≡ got tree rest
    read-tree (a_leaf small) zero marks rest marked enough = absurd (omega arith)
    read-tree (a_leaf {class = class} small) (suc levels) marks rest marked enough =
        (leaf-back class small).back rest
    read-tree (a_node inside new each) zero marks rest marked enough = absurd (omega arith)
    read-tree (a_node {above} {component} {subtrees} inside new each) (suc levels) marks rest marked enough =
        let free = marked.free component inside new in
        rw (
          ne_eqb component leaf_mark (λ is. omega (arith, is, inside, few)),
          lt-leb (length counts) component inside,
          eq-eqb (get_or marks component 0) blank_mark free,
          read-trees each levels (set marks component) 0 rest
              (λ s h. marked_more (length counts) above marks component s inside (state-marked component s (omega arith)) marked)
              (λ s h. let fewer = unasked-less marks component s free (state-marked component s (omega arith)) in omega (arith, fewer, enough)),
        )
        refl

    read-trees : {above : List ℕ} {n : ℕ} {subtrees : Trees} → EachDrawn counts loads above n subtrees → (levels : ℕ) (marks : ℕ → List ℕ)
        (s : ℕ) (rest : List ℕ) → ((k : ℕ) → k < s + n → Marked (length counts) above (marks k)) → ((k : ℕ) → k < s + n → unasked (marks k) < levels)
        → subtrees_read (λ (k : ℕ). tree_read counts loads levels (marks k)) s n (trees_bytes subtrees ++ rest) ≡ got subtrees rest
    read-trees no_more levels marks s rest marked enough = refl
    read-trees (one_more {n = n} {tree} {subtrees} well each) levels marks s rest marked enough =
        rw (
          append_assoc (tree_bytes tree) (trees_bytes subtrees) rest,
          read-tree well levels (marks s) (trees_bytes subtrees ++ rest) (marked s (omega arith)) (enough s (omega arith)),
          read-trees each levels marks (s + 1) rest (λ k h. marked k (omega arith)) (λ k h. enough k (omega arith)),
        )
        refl

  read_whole : (tree : Tree) → WholeDrawn counts loads tree → drawn_read counts loads (tree_bytes tree) ≡ got tree []
  unfolding drawn_read nothing_asked unasked ended refuse
  read_whole tree well =
      ap (λ (r : Read Tree). and_then r ended)
      (ap (tree_read counts loads (suc most_components) nothing_asked) (sym (append-nil (tree_bytes tree)))
      ∙ read-tree well (suc most_components) nothing_asked [] nothing-marked (omega arith))

pub accepts : Accepts
unfolding drawn_fault drawn_tree
accepts counts loads few states =
    record {
      only = λ bytes done. record { well_drawn = drawn-well counts loads few states bytes done; bytes_are = reads-back counts loads bytes done };
      every =
          λ tree well.
          let whole = read_whole counts loads few states tree well in
          record { kept = ap fault_in whole; read = ap tree_in whole };
    }

-- In a tree that is read every joint state reaches one leaf, which bears its class. What carries it: each node that is read has a subtree for each state
-- of its component, and a walk down the tree has no choice.
use Prim.Native.Nat.{ℕ, zero, suc, ◌+◌, ◌<◌}
use mathlib.Core.Path.{◌≡◌, refl, sym, ap, ◌∙◌}
use mathlib.Core.List.{List, [], ◌∷◌}
use native.Mathlib.Nat.{add-zero, zero-add}
use native.Mathlib.Omega.{arith}
use lib.ListN.{get_or}
use Rattle.rules.proofs.Rows.{node_kept}
use Rattle.joint_states.specs.JointStates.{JointState}
use Rattle.drawn_tree.specs.Leaves.{Subtree, first, later, Reaches, here, below, OneLeafEach, subtrees_from, AskingReaches}
use Rattle.drawn_tree.specs.Tree.{Tree, leaf, node, Trees, none, more, drawn_class, reached}
use Rattle.drawn_tree.proofs.Induction.{EachSubtree, no_more, one_more, Steps, drawn-holds}

-- ---- a walk has no choice

-- the branch of a joint state
unfoldable mutual
  pub branch_of : Tree → List ℕ → List ℕ
  branch_of (leaf class) x = []
  branch_of (node component subtrees) x = get_or x component 0 ∷ branch_in subtrees (get_or x component 0) x

  -- in subtree s
  pub branch_in : Trees → ℕ → List ℕ → List ℕ
  branch_in none s x = []
  branch_in (more tree subtrees) zero x = branch_of tree x
  branch_in (more tree subtrees) (suc s) x = branch_in subtrees s x

module _ (x : List ℕ) where
  subtree-branch : {subtrees : Trees} {s : ℕ} {tree : Tree} → Subtree subtrees s tree → branch_of tree x ≡ branch_in subtrees s x
  unfolding branch_of
  subtree-branch first = refl
  subtree-branch (later h) = subtree-branch h

  subtree-reached : {subtrees : Trees} {s : ℕ} {tree : Tree} → Subtree subtrees s tree → drawn_class tree x ≡ reached subtrees s x
  unfolding drawn_class
  subtree-reached first = refl
  subtree-reached (later h) = subtree-reached h

only-branch : {tree : Tree} {x branch : List ℕ} {class : ℕ} → Reaches tree x branch class → branch ≡ branch_of tree x
unfolding branch_of
only-branch here = refl
only-branch {x = x} (below {component} at rest) = ap (λ (b : List ℕ). get_or x component 0 ∷ b) (only-branch rest ∙ subtree-branch x at)

only-class : {tree : Tree} {x branch : List ℕ} {class : ℕ} → Reaches tree x branch class → class ≡ drawn_class tree x
unfolding drawn_class
only-class here = refl
only-class {x = x} (below at rest) = only-class rest ∙ subtree-reached x at

-- ---- and finds a leaf in a tree that is read

module _ (counts : List ℕ) where
  -- in every joint state
  abbrev Found : Tree → Type 0
  Found tree = (x : List ℕ) → JointState counts x → Reaches tree x (branch_of tree x) (drawn_class tree x)

  -- in subtree k
  pub record FoundAt (subtrees : Trees) (k : ℕ) : Type 0 where
    pub tree : Tree
    pub at : Subtree subtrees k tree
    pub found : Found tree

  found_at : {s n : ℕ} {subtrees : Trees} → EachSubtree (λ (s : ℕ). Found) s n subtrees → (k : ℕ) → k < n → FoundAt subtrees k
  found_at no_more k h = absurd (omega arith)
  found_at (one_more {tree = tree} one rest) zero h = record { tree = tree; at = first; found = one }
  found_at (one_more one rest) (suc k) h =
      let behind = found_at rest k (omega arith) in
      record { tree = behind.tree; at = later behind.at; found = behind.found }

  found-steps : (loads : ℕ) → Steps counts loads (λ (marks : List ℕ). Found)
  unfolding drawn_class branch_of
  found-steps loads =
      record {
        at_leaf = λ marks class kept x joint. here;
        at_node =
            λ marks component subtrees kept each x joint.
            let behind = found_at each (get_or x component 0) (joint.below component (node_kept _ component _ kept).inside) in
            rw (sym (subtree-reached x behind.at), sym (subtree-branch x behind.at)) (below behind.at (behind.found x joint));
      }

pub one-leaf-each : OneLeafEach
one-leaf-each counts loads bytes x done joint =
    record {
      branch = branch_of _ x;
      reaches = drawn-holds counts loads (λ (marks : List ℕ). Found counts) (found-steps counts loads) bytes done x joint;
      only = λ other borne walk. only-branch walk;
      bears = λ other borne walk. only-class walk;
    }

-- ---- a tree that asks a component

from-reached : (subtree : ℕ → Tree) (s n k : ℕ) (x : List ℕ) → k < n → reached (subtrees_from subtree s n) k x ≡ drawn_class (subtree (s + k)) x
unfolding reached subtrees_from
from-reached subtree s zero k x h = absurd (omega arith)
from-reached subtree s (suc n) zero x h = ap (λ (i : ℕ). drawn_class (subtree i) x) (sym (add-zero s))
from-reached subtree s (suc n) (suc k) x h =
    let place : s + 1 + k ≡ s + suc k = omega arith in
    from-reached subtree (s + 1) n k x (omega arith) ∙ ap (λ (i : ℕ). drawn_class (subtree i) x) place

pub asking-reaches : AskingReaches
unfolding drawn_class
asking-reaches counts component subtree x joint inside =
    from-reached subtree 0 (get_or counts component 0) (get_or x component 0) x (joint.below component inside)
    ∙ ap (λ (i : ℕ). drawn_class (subtree i) x) (zero-add (get_or x component 0))

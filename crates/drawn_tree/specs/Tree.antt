-- A drawn event tree as data, and the class that a joint state reaches in it.
use Rattle.std.specs.Prelude.{ℕ, zero, suc, List, get_or}

-- a leaf bears a class; a node asks a component, and has a subtree for each of its states, state 0 first
mutual
  pub data Tree : Type 0 where
    leaf : ℕ → Tree
    node : ℕ → Trees → Tree

  pub data Trees : Type 0 where
    none : Trees
    more : Tree → Trees → Trees

-- the class of the leaf that a joint state reaches: at a node it goes on with the subtree of the component's state
unfoldable mutual
  pub drawn_class : Tree → List ℕ → ℕ
  drawn_class (leaf class) x = class
  drawn_class (node component subtrees) x = reached subtrees (get_or x component 0) x

  -- in subtree s
  pub reached : Trees → ℕ → List ℕ → ℕ
  reached none s x = 0
  reached (more tree subtrees) zero x = drawn_class tree x
  reached (more tree subtrees) (suc s) x = reached subtrees s x

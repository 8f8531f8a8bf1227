-- Demand 3, one comparable list of paths per meaning, over the definitions that the contract of the listing cites.
-- The words in which it speaks of a list (fits, bears, ascends, settled, changes no loss) stand in crate `paths`, and
-- what holds of the paths of any good model in `model`.
use Rattle.std.specs.Prelude.{ℕ, ◌*◌, ◌<◌, ◌≡◌, List, length, take}
use Rattle.lists.specs.Bits.{bit}
use Rattle.joint_states.specs.JointStates.{JointState}
use Rattle.study.specs.declared.Study.{Study}
use Rattle.study.specs.Joint.{state_counts}
use Rattle.entries.specs.Entries.{entry_bytes}
use Rattle.paths.specs.Words.{IsEntry, OnePath, Ascending, BlankIff}
use Rattle.model.specs.Listed.{Listed as Holds}
use Rattle.model.specs.Model.{Model, components}
use Rattle.drawn_tree.specs.Drawn.{drawn_tree}
use Rattle.drawn_tree.specs.Leaves.{asking}
use Rattle.drawn_tree.specs.Tree.{Tree, drawn_class}
use Rattle.meaning.specs.Meaning.{Meaning, by_tree, class_meant, model_of}
use Rattle.path_calls.specs.Listing.{buffer_listed}
use Rattle.demands.specs.Listed.{ListedBy, paths_in, path_in}

-- ---- equal lists

-- two models lose the same loads in every joint state: bit j of its class stands where load j is lost
abbrev pub LoseAlike : Model → Model → Type 0
LoseAlike m n = (x : List ℕ) → JointState m.counts x → (j : ℕ) → bit (m.class x) j ≡ bit (n.class x) j

-- "equal": as many paths, p in buffer d and q in buffer e, and the same bytes in all their entries, whatever either
-- buffer holds behind
pub record ListsEqual (components p q : ℕ) (d e : List ℕ) : Type 0 where
  pub number : p ≡ q
  pub bytes : take (p * entry_bytes components) d ≡ take (q * entry_bytes components) e

-- two lists are equal exactly when the two models lose the same loads in every joint state
pub record EqualIffAlike (m n : Model) (p q : ℕ) (d e : List ℕ) : Type 0 where
  pub same_losses : ListsEqual (components m) p q d e → LoseAlike m n
  pub same_lists : LoseAlike m n → ListsEqual (components m) p q d e

-- So it is for any two good models over the same row of state counts, whose lists two buffers hold.
abbrev pub ModelListsEqualIff : Type 0
ModelListsEqualIff =
    (m n : Model) (p q : ℕ) (d e : List ℕ) → m.counts ≡ n.counts → Holds m p d → Holds n q e
    → EqualIffAlike m n p q d e

-- For any two studies over the same row of state counts, each by its gates or by a drawn tree, whatever the lent
-- buffers held, and calls that were not refused: their lists are equal exactly when they lose the same loads in every
-- joint state.
abbrev pub ListsEqualIff : Type 0
ListsEqualIff =
    (m n : Meaning) (t u : Study) (p q : ℕ) (d e : List ℕ) → ListedBy m t d p → ListedBy n u e q
    → state_counts t ≡ state_counts u
    → EqualIffAlike (model_of m t) (model_of n u) p q (buffer_listed m t d) (buffer_listed n u e)

-- ---- trees that are drawn anew

-- two trees reach the same class in every joint state
abbrev pub ReachAlike : List ℕ → Tree → Tree → Type 0
ReachAlike counts a b = (x : List ℕ) → JointState counts x → drawn_class a x ≡ drawn_class b x

pub record Redrawn : Type 0 where
  -- A tree that reaches the same classes has the same list, in whatever order it asks the components.
  pub same_list : (t : Study) (tree other : List ℕ) (p q : ℕ) (d e : List ℕ) → ListedBy (by_tree tree) t d p
      → ListedBy (by_tree other) t e q
      → ReachAlike (state_counts t) (drawn_tree (state_counts t) t.loads tree) (drawn_tree (state_counts t) t.loads other)
      → ListsEqual (length (state_counts t)) p q (buffer_listed (by_tree tree) t d) (buffer_listed (by_tree other) t e)
  -- So it is where two components that are asked one below the other change places.
  pub changed_places : (counts : List ℕ) (i k : ℕ) → i < length counts → k < length counts → (below : ℕ → ℕ → Tree)
      → ReachAlike counts (asking counts i (λ (s : ℕ). asking counts k (below s))) (asking counts k (λ (r : ℕ). asking counts i (λ (s : ℕ). below s r)))

-- ---- each list that was answered

-- Each entry has a mark for each component and a class, a settled mark is a state that its component has, and some
-- joint state fits it.
abbrev pub EachIsEntry : Type 0
EachIsEntry =
    (m : Meaning) (t : Study) (d : List ℕ) (p : ℕ) → ListedBy m t d p
    → (i : ℕ) → i < p → IsEntry (state_counts t) (class_meant m t) (path_in m t d p i)

-- A joint state fits one path of the list and no other, and has the class that this path bears.
abbrev pub OnePathEach : Type 0
OnePathEach =
    (m : Meaning) (t : Study) (d : List ℕ) (p : ℕ) → ListedBy m t d p
    → (x : List ℕ) → JointState (state_counts t) x
    → OnePath (length (state_counts t)) (class_meant m t x) x (paths_in m t d p)

-- Paths ascend by state.
abbrev pub PathsAscend : Type 0
PathsAscend =
    (m : Meaning) (t : Study) (d : List ℕ) (p : ℕ) → ListedBy m t d p
    → Ascending (length (state_counts t)) (paths_in m t d p)

-- Blank on a path are exactly the components whose own state changes no loss there, once those in front that are
-- settled have their states.
abbrev pub BlankExactly : Type 0
BlankExactly =
    (m : Meaning) (t : Study) (d : List ℕ) (p : ℕ) → ListedBy m t d p
    → (i k : ℕ) → i < p → k < length (state_counts t) → BlankIff (state_counts t) (class_meant m t) k (path_in m t d p i)

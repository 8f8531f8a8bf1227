-- The words in which document 01 speaks of a list of paths, each of which is its entry.
use Rattle.std.specs.Prelude.{ℕ, ◌<◌, ◌≡◌, Bool, true, ◌&&◌, ◌||◌, List, [], ◌∷◌, eqb, length, get_or}
use Rattle.lists.specs.Counting.{those}
use Rattle.joint_states.specs.JointStates.{JointState}
use Rattle.entries.specs.Entries.{blank_mark, entry_bytes, class_borne}

abbrev pub Blank : List ℕ → ℕ → Type 0
Blank entry k = get_or entry k blank_mark ≡ blank_mark

-- "settled": the entry holds a state for component k
abbrev pub Settled : List ℕ → ℕ → Type 0
Settled entry k = Blank entry k → ⊥

-- "fits": wherever the path settles a component, joint state x has that state
unfoldable pub fits : List ℕ → List ℕ → Bool
fits [] entry = true
fits (s ∷ x) [] = true
fits (s ∷ x) (mark ∷ entry) = (eqb mark blank_mark || eqb mark s) && fits x entry

-- an entry over components with these state counts: a mark for each of them, then a class; a settled mark is a state
-- that its component has; and some joint state fits, whose class it bears, so that no path is empty
pub record IsEntry (counts : List ℕ) (class : List ℕ → ℕ) (entry : List ℕ) : Type 0 where
  pub long : length entry ≡ entry_bytes (length counts)
  pub states : (k : ℕ) → k < length counts → Settled entry k → get_or entry k blank_mark < get_or counts k 0
  pub joint : List ℕ
  pub is_joint : JointState counts joint
  pub fitted : fits joint entry ≡ true
  pub bears : class_borne (length counts) entry ≡ class joint

-- the paths that a joint state fits
abbrev pub fitting : List ℕ → List (List ℕ) → List (List ℕ)
fitting x entries = those (fits x) entries

-- joint state x fits one path and only one, and that path bears its class
pub record OnePath (n class : ℕ) (x : List ℕ) (entries : List (List ℕ)) : Type 0 where
  pub path : List ℕ
  pub only : fitting x entries ≡ path ∷ []
  pub bears : class_borne n path ≡ class

-- "ascend by state": where the two first differ, both are settled and the earlier one has the lower state
pub record Ascends (n : ℕ) (earlier later : List ℕ) : Type 0 where
  pub component : ℕ
  pub inside : component < n
  pub alike : (k : ℕ) → k < component → get_or earlier k 0 ≡ get_or later k 0
  pub settled_earlier : Settled earlier component
  pub settled_later : Settled later component
  pub lower : get_or earlier component 0 < get_or later component 0

abbrev pub Ascending : ℕ → List (List ℕ) → Type 0
Ascending n entries = (i j : ℕ) → i < j → j < length entries → Ascends n (get_or entries i []) (get_or entries j [])

-- two joint states that have every state which the path settles before component k, and differ in k alone
pub record DifferAt (counts : List ℕ) (k : ℕ) (entry x y : List ℕ) : Type 0 where
  pub first : JointState counts x
  pub second : JointState counts y
  pub before : (i : ℕ) → i < k → Settled entry i → get_or x i 0 ≡ get_or entry i 0
  pub others : (i : ℕ) → (i ≡ k → ⊥) → get_or x i 0 ≡ get_or y i 0

-- "changes no loss": any two such joint states have the same class
abbrev pub ChangesNoLoss : List ℕ → (List ℕ → ℕ) → ℕ → List ℕ → Type 0
ChangesNoLoss counts class k entry = (x y : List ℕ) → DifferAt counts k entry x y → class x ≡ class y

-- component k is blank on a path exactly when its own state changes no loss there
pub record BlankIff (counts : List ℕ) (class : List ℕ → ℕ) (k : ℕ) (entry : List ℕ) : Type 0 where
  pub blank : Blank entry k → ChangesNoLoss counts class k entry
  pub settled : ChangesNoLoss counts class k entry → Blank entry k

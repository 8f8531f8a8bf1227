-- Demand 2, what is lost: a joint state loses the loads that the fault tree says, or the leaf that it reaches in a
-- drawn tree.
use Rattle.std.specs.Prelude.{ℕ, ◌<◌, ◌≤◌, ◌≡◌, Bool, true, false, List, length, get_or}
use Rattle.lists.specs.Bits.{bit}
use Rattle.rules.specs.Limits.{never}
use Rattle.study.specs.declared.Study.{Study}
use Rattle.study.specs.Joint.{state_counts}
use Rattle.study.specs.Places.{gate_at, load_at}
use Rattle.joint_states.specs.JointStates.{JointState}
use Rattle.entries.specs.Entries.{class_borne}
use Rattle.paths.specs.Words.{fits}
use Rattle.soundness.specs.Sound.{Sound}
use Rattle.fault_tree.specs.Truth.{gate_true, gate_truths}
use Rattle.fault_tree.specs.Classes.{class_of}
use Rattle.drawn_tree.specs.Drawn.{drawn_tree}
use Rattle.drawn_tree.specs.Leaves.{Reaches, OneLeaf}
use Rattle.meaning.specs.Meaning.{Meaning, by_gates, by_tree, meaning_fault, model_of}
use Rattle.demands.specs.Listed.{ListedBy, path_in}

-- gate i is true in joint state x
abbrev pub is_true : Study → List ℕ → ℕ → Bool
is_true t x i = get_or (gate_truths t.gate x t.gates) i false

-- Each gate is true exactly when at least its threshold of distinct inputs are, a gate input being as true as that
-- gate is.
abbrev pub GatesAgree : Type 0
GatesAgree =
    (t : Study) → Sound t → (x : List ℕ) (i : ℕ) → i < t.gates → is_true t x i ≡ gate_true (gate_at t i) x (is_true t x)

-- load j has a loss gate, and that gate is true in joint state x
pub record LossGateTrue (t : Study) (x : List ℕ) (j : ℕ) : Type 0 where
  pub has_gate : (load_at t j).gate ≡ never → ⊥
  pub holds : is_true t x (load_at t j).gate ≡ true

-- a class tells what joint state x loses: bit j stands exactly when load j has a loss gate and it is true there, and
-- the bit of a load that the study lacks is clear
pub record TellsLosses (t : Study) (x : List ℕ) (class : ℕ) : Type 0 where
  pub lost : (j : ℕ) → j < t.loads → bit class j ≡ true → LossGateTrue t x j
  pub stands : (j : ℕ) → j < t.loads → LossGateTrue t x j → bit class j ≡ true
  pub lacks : (j : ℕ) → t.loads ≤ j → bit class j ≡ false

-- The class of a joint state does.
abbrev pub LostIff : Type 0
LostIff = (t : Study) (x : List ℕ) → TellsLosses t x (class_of t x)

-- Under a drawn tree, a class tells what joint state x loses where x reaches one leaf and only one, which bears that
-- class; bit j stands exactly when load j is lost, whatever the study's gates say, and the bit of a load that the
-- study lacks is clear.
pub record TellsLeaf (t : Study) (tree x : List ℕ) (class : ℕ) : Type 0 where
  pub leaf : OneLeaf (drawn_tree (state_counts t) t.loads tree) x class
  pub lacks : (j : ℕ) → t.loads ≤ j → bit class j ≡ false

-- what a joint state loses is told by a class
abbrev pub Tells : Meaning → Study → List ℕ → ℕ → Type 0
Tells by_gates t x class = TellsLosses t x class
Tells (by_tree tree) t x class = TellsLeaf t tree x class

-- The class of every joint state does so, of a tree that is not refused.
abbrev pub DrawnLostIff : Type 0
DrawnLostIff =
    (t : Study) (tree x : List ℕ) → meaning_fault (by_tree tree) t ≡ 0 → JointState (state_counts t) x
    → TellsLeaf t tree x ((model_of (by_tree tree) t).class x)

-- So does, on the list that a call answered, the class of a path, of every joint state that fits it.
abbrev pub ListedLosses : Type 0
ListedLosses =
    (m : Meaning) (t : Study) (d : List ℕ) (p : ℕ) → ListedBy m t d p
    → (i : ℕ) → i < p → (x : List ℕ) → JointState (state_counts t) x → fits x (path_in m t d p i) ≡ true
    → Tells m t x (class_borne (length (state_counts t)) (path_in m t d p i))

-- ---- a test that says so

-- a test says whether load j has a loss gate that is true in joint state x
pub record SaysGate (t : Study) (x : List ℕ) (j : ℕ) (says : Bool) : Type 0 where
  pub lost : says ≡ true → LossGateTrue t x j
  pub stands : LossGateTrue t x j → says ≡ true

-- a test says of every joint state whether load j is lost: by its loss gate, or by the leaf that the joint state
-- reaches
abbrev pub SaysLoss : Meaning → Study → ℕ → (List ℕ → Bool) → Type 0
SaysLoss by_gates t j lost = (x : List ℕ) → JointState (state_counts t) x → SaysGate t x j (lost x)
SaysLoss (by_tree tree) t j lost =
    (x : List ℕ) → JointState (state_counts t) x → (branch : List ℕ) (class : ℕ)
    → Reaches (drawn_tree (state_counts t) t.loads tree) x branch class → lost x ≡ bit class j

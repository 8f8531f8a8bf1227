-- Drawn trees: which are refused and by what, which are let through, and that the tree replaces the gates and loss
-- gates of its study.
use Rattle.std.specs.Prelude.{ℕ, ◌≡◌, List, [], ◌∷◌, map, take}
use Rattle.lists.specs.OneOf.{OneOf}
use Rattle.study.specs.declared.Component.{Component}
use Rattle.study.specs.declared.Load.{Load}
use Rattle.study.specs.declared.Study.{Study}
use Rattle.study.specs.Joint.{state_counts}
use Rattle.answers.specs.Told.{result, refusal}
use Rattle.soundness.specs.Sound.{Sound}
use Rattle.drawn_tree.specs.Laws.{tree_bytes}
use Rattle.drawn_tree.specs.Tree.{Tree}
use Rattle.drawn_tree.specs.WellDrawn.{WholeDrawn, ReadDrawn, Acceptance}
use Rattle.meaning.specs.Meaning.{by_tree}
use Rattle.demands.specs.Calls.{Question, ask, Call, call_told, Lent, call_lent}

-- A drawn tree is refused by the first breach met from the left, by the numbers 20 to 22 and by no other; one that is
-- not refused has the bytes that were given, all of them.
pub record DrawnReads : Type 0 where
  pub is_first_breach : Rattle.drawn_tree.specs.Laws.DrawnReads
  pub numbers : Rattle.drawn_tree.specs.Laws.DrawnRows
  pub bytes : Rattle.drawn_tree.specs.Laws.ReadsBack

-- ---- which are let through

-- the bytes draw a tree beside a study: one that is well drawn over its components and loads, and that is read
abbrev pub DrawsTree : Study → List ℕ → Type 0
DrawsTree t bytes = ReadDrawn (state_counts t) t.loads bytes

-- A drawn tree is let through exactly when its bytes are those of a tree that is well drawn: its components are
-- there, none is asked twice on a branch, and its classes are of the study's loads.
pub record DrawnAccepted : Type 0 where
  -- beside every sound study
  pub acceptance : (t : Study) → Sound t → Acceptance (state_counts t) t.loads
  -- so a call that told values was handed such bytes
  pub told : (q : Question) (t : Study) (tree values : List ℕ) → call_told (ask (by_tree tree) q) t ≡ result values
      → DrawsTree t tree
  -- and one that was handed such bytes is refused by none of the numbers of a drawn tree
  pub not_refused : (q : Question) (t : Study) (tree : Tree) (n : ℕ) → WholeDrawn (state_counts t) t.loads tree
      → call_told (ask (by_tree (tree_bytes tree)) q) t ≡ refusal n → OneOf (20 ∷ 21 ∷ 22 ∷ []) n → ⊥

-- ---- what it replaces

-- the components that a study has, and its loads
abbrev pub components_of : Study → List Component
components_of t = take t.components t.component

abbrev pub loads_of : Study → List Load
loads_of t = take t.loads t.load

-- two studies with the same components, and loads with the same customers and minutes; gates and loss gates are not
-- compared
pub record AlikeButGates (t u : Study) : Type 0 where
  pub components : components_of t ≡ components_of u
  pub loads : t.loads ≡ u.loads
  pub customers : map (λ (l : Load). l.customers) (loads_of t) ≡ map (λ (l : Load). l.customers) (loads_of u)
  pub minutes : map (λ (l : Load). l.minutes) (loads_of t) ≡ map (λ (l : Load). l.minutes) (loads_of u)

-- what a call leaves of all that it was lent
abbrev pub left_of : Call → Study → List (List ℕ)
left_of c t = map (λ (l : Lent). l.after) (call_lent c t)

-- every call by this tree tells the same of both, refusals included, and leaves the same in every lent place
pub record SameByTree (tree : List ℕ) (t u : Study) : Type 0 where
  pub told : (q : Question) → call_told (ask (by_tree tree) q) t ≡ call_told (ask (by_tree tree) q) u
  pub left : (q : Question) → left_of (ask (by_tree tree) q) t ≡ left_of (ask (by_tree tree) q) u

-- The tree replaces the gates: two sound studies that differ in them alone are one to every call by a tree.
abbrev pub TreeReplacesGates : Type 0
TreeReplacesGates = (t u : Study) → Sound t → Sound u → AlikeButGates t u → (tree : List ℕ) → SameByTree tree t u

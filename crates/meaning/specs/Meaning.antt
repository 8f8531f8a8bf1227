-- What a call on a study is about: the loss logic that its own gates make, or a tree that is drawn beside it. Lists, bounds and figures are those of
-- one model, whichever it is.
use Rattle.std.specs.Prelude.{ℕ, List, [], ◌∷◌}
use Rattle.rules.specs.Table.{unsound_fault}
use Rattle.study.specs.declared.Study.{Study}
use Rattle.study.specs.Joint.{state_counts}
use Rattle.soundness.specs.Check.{sound}
use Rattle.fault_tree.specs.Classes.{class_of}
use Rattle.drawn_tree.specs.Drawn.{drawn_fault, drawn_tree}
use Rattle.drawn_tree.specs.Tree.{drawn_class}
use Rattle.model.specs.Model.{Model}
use Rattle.study_model.specs.Model.{model_with}

-- the gates and loss gates of the study, or the bytes of a drawn tree, which replaces them
pub data Meaning : Type 0 where
  by_gates : Meaning
  by_tree : List ℕ → Meaning

-- 20, 21 or 22 where a drawn tree breaks a rule; gates are judged with their study
abbrev pub meaning_fault : Meaning → Study → ℕ
meaning_fault by_gates t = 0
meaning_fault (by_tree tree) t = drawn_fault (state_counts t) t.loads tree

-- the class of a joint state: where a tree is drawn, that of the leaf which the joint state reaches
abbrev pub class_meant : Meaning → Study → List ℕ → ℕ
class_meant by_gates t = class_of t
class_meant (by_tree tree) t = drawn_class (drawn_tree (state_counts t) t.loads tree)

-- the model of a study under a meaning
unfoldable pub model_of : Meaning → Study → Model
unfolding class_of drawn_tree drawn_class
model_of m t = model_with t (class_meant m t)

-- 16, then the meaning: what the calls judge before they know of classes; the one for a load judges 17 between the two
abbrev pub meant_breaches : Meaning → Study → List ℕ
meant_breaches m t = unsound_fault (sound t) ∷ meaning_fault m t ∷ []

-- A class table that holds the classes of a meaning has the paths of its model, and with them all that is worked out of paths.
use Prim.Native.Nat.{ℕ, ◌≤◌}
use mathlib.Core.Path.{◌≡◌, ap, ◌∙◌}
use mathlib.Core.List.{List}
use lib.ListN.{length, take}
use Rattle.lists.specs.Product.{product}
use Rattle.lists.proofs.Fronts.{put-taken}
use Rattle.rules.specs.Limits.{most_joint_states}
use Rattle.study.specs.declared.Study.{Study}
use Rattle.study.specs.Joint.{state_counts}
use Rattle.soundness.specs.Sound.{Sound}
use Rattle.model.specs.Good.{Good}
use Rattle.model.specs.declared.HeldModel.{HeldModel}
use Rattle.model.specs.InHand.{model_held}
use Rattle.model.specs.Model.{Model, classes_of, components, paths_of, probability_table}
use Rattle.model.proofs.Classes.{classes-long}
use Rattle.study_model.specs.Holding.{Holds}
use Rattle.study_model.specs.Model.{model_by}
use Rattle.study_model.proofs.ClassFront.{front-paths, front-values}
use Rattle.study_model.proofs.Good.{with-good}
use Rattle.meaning.specs.Meaning.{Meaning, class_meant, model_of}
use Rattle.meaning.specs.Sources.{Tabled}

pub meant-good : (m : Meaning) (t : Study) → Sound t → Good (model_of m t)
unfolding model_of
meant-good m t sound = with-good t sound (class_meant m t)

-- a study in hand beside such a table
module _ (m : Meaning) {t : Study} {h : HeldModel} {was : List ℕ} (table : List ℕ) (sound : Sound t) (holds : Holds t h) (room : most_joint_states ≤ length table)
    (tabled : Tabled m t was table) where
  table-front : take (product (state_counts t)) table ≡ classes_of (model_of m t)
  unfolding model_of
  table-front = ap (take (product (state_counts t))) tabled.holds ∙ put-taken was (classes_of (model_of m t)) (classes-long (model_of m t))

  pub table-paths : paths_of (model_held h table) ≡ paths_of (model_of m t)
  unfolding model_of
  table-paths = ap paths_of (holds.model table) ∙ front-paths table sound room (class_meant m t) table-front

  pub table-values : {A : Type 0} (f : List ℕ → ℕ → List (List ℕ) → A)
      → f (probability_table (model_held h table)) (components (model_held h table)) (paths_of (model_held h table))
      ≡ f (probability_table (model_of m t)) (components (model_of m t)) (paths_of (model_of m t))
  unfolding model_of
  table-values f =
      ap (λ (n : Model). f (probability_table n) (components n) (paths_of n)) (holds.model table)
      ∙ front-values table sound room (class_meant m t) table-front f

  pub table-loads : (model_held h table).loads ≡ (model_of m t).loads
  unfolding model_of model_by
  table-loads = ap (λ (n : Model). n.loads) (holds.model table)

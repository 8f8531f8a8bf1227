-- A model in hand that is a study's.
use Rattle.std.specs.Prelude.{◌≡◌, List, ℕ}
use Rattle.study.specs.declared.Study.{Study}
use Rattle.model.specs.declared.HeldModel.{HeldModel}
use Rattle.model.specs.InHand.{model_held, HeldPlaces}
use Rattle.study_model.specs.Model.{model_by}

-- beside any table of classes it is the model that the table makes of the study
pub record Holds (t : Study) (h : HeldModel) : Type 0 where
  pub places : HeldPlaces h
  pub model : (classes : List ℕ) → model_held h classes ≡ model_by t classes

-- Arrays that hold the bounds for the losses of a model's loads.
use Rattle.std.specs.Prelude.{ℕ, ◌≡◌, List}
use Rattle.rules.specs.Limits.{most_loads}
use Rattle.model.specs.Model.{Model}
use Rattle.indices.specs.Losses.{LossBounds}
use Rattle.evaluation.specs.Bounds.{load_lowers, load_uppers}

pub record LossesOf (m : Model) (lower upper : List ℕ) : Type 0 where
  pub lowers : lower ≡ load_lowers m
  pub uppers : upper ≡ load_uppers m
  pub bounds : LossBounds lower upper most_loads

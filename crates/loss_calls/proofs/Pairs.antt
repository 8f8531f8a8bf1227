-- The pair of a load among the bounds of all.
use Prim.Native.Nat.{ℕ, ◌<◌}
use mathlib.Core.Path.{◌≡◌, ap, ◌∙◌}
use mathlib.Core.List.{List}
use lib.ListN.{get_or}
use Rattle.rules.specs.Limits.{most_loads}
use Rattle.model.specs.Model.{Model}
use Rattle.evaluation.specs.Losses.{LossesOf}
use Rattle.evaluation.proofs.LossOrder.{lower-at, upper-at}
use Rattle.loss_calls.specs.Bounds.{loss_of}
use Rattle.answers.specs.Answers.{BoundsAnswer}
use Rattle.std.specs.Prelude.{Ok}

pub loss-pair : {m : Model} {lower upper : List ℕ} {j : ℕ} → LossesOf m lower upper → j < most_loads
    → ◌≡◌ {A = BoundsAnswer} (Ok (record { lower = get_or lower j 0; upper = get_or upper j 0 })) (Ok (loss_of m j))
loss-pair {m} {lower} {upper} {j} losses h =
    let low = ap (λ (l : List ℕ). get_or l j 0) losses.lowers ∙ lower-at m j h in
    let high = ap (λ (l : List ℕ). get_or l j 0) losses.uppers ∙ upper-at m j h in
    λ i. Ok (record { lower = low i; upper = high i })

-- A call that only fills what it was lent answers its breach below 0.
use Rattle.std.proofs.Common.{ℕ, ◌≡◌, Bool, true, false, List, cond, eqb, eqb-true, refl, ap}
use Rattle.answers.specs.Answered.{answered}
use Rattle.answers.specs.Told.{result, refusal, tells}
use Rattle.export_answers.specs.Answers.{below, answered_by, done}

pub breach-answered : (breach : ℕ) (values : List ℕ) → below breach ≡ answered_by done (tells breach values)
unfolding tells answered
breach-answered breach values = go (eqb breach 0) refl
  where
    go : (b : Bool) → eqb breach 0 ≡ b → below breach ≡ answered_by done (cond b (result values) (refusal breach))
    go true none = ap below (eqb-true breach 0 none)
    go false some = refl

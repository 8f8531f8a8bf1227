-- `survival::survival` meets its contract: the exponent is judged first, and without a breach the chances are those of
-- its exponential. That they keep the promise is a law of the answer.
use Rattle.std.proofs.Common.{arith}
use Rattle.rules.proofs.Kept.{list-last}
use Rattle.answers.specs.Answered.{answered}
use Rattle.survival.specs.Chances.{survival_fault, survival_given}
use Rattle.survival.proofs.Promise.{answers}
use Rattle.survival.proofs.survival.Goals as goal

pub returns-in_err-far_fault : goal.returns-in_err-far_fault
unfolding survival_given survival_fault answered
returns-in_err-far_fault c = answers _ _ _ (grind (arith, list-last))

pub returns : goal.returns
unfolding survival_given survival_fault answered
returns c = answers _ _ _ (grind (arith, list-last))

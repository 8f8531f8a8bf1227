-- What follows where each lower bound is at most its upper one: it is at most one too, and so is the lower sum of P × C at most the upper one.
use Rattle.std.proofs.Common.{ℕ, ◌≤◌, Bool, List, arith, length, get_or, mul-le-mul_right}
use Rattle.lists.proofs.SumBelow.{sum-most}
use Rattle.lists.proofs.SumOver.{counted-ordered}
use Rattle.study.specs.declared.Load.{Load}
use Rattle.study.specs.Zero.{zero_load}
use Rattle.indices.specs.Figures.{loads_sum, loss_sum, bound_of}
use Rattle.indices.specs.Losses.{AtMostOne, LossBounds}

module _ {lower upper : List ℕ} {n : ℕ} (bounds : LossBounds lower upper n) where
  pub lower-most : AtMostOne lower n
  lower-most = record { most = λ j h. omega (arith, bounds.ordered j h, bounds.uppers.most j h) }

  pub loss-ordered : (takes_part : Load → Bool) (loads : List Load) → length loads ≤ n
      → loss_sum takes_part (bound_of lower) loads ≤ loss_sum takes_part (bound_of upper) loads
  unfolding loss_sum loads_sum
  loss-ordered takes_part loads few =
      sum-most _ _ (length loads)
      (λ j h.
      counted-ordered (takes_part (get_or loads j zero_load))
      (mul-le-mul_right (get_or loads j zero_load).customers (bounds.ordered j (omega (arith, h)))))

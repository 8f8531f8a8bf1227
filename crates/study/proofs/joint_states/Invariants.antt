-- `study::joint_states`: what is multiplied so far, times the product of the counts that are left, is the whole product; with each count at most
-- 4 it is at most 4 to the number of counts passed, so that it fits.
use Rattle.std.proofs.Common.{ℕ, ◌*◌, ◌^◌, ◌≤◌, ◌≡◌, List, drop}
use Rattle.rules.specs.Limits.{most_states}
use Rattle.lists.specs.Product.{product}
use Rattle.study.proofs.joint_states.Given as goal

-- The first i counts are multiplied to `joint`.
pub record JointLeft (counts : List ℕ) (i joint : ℕ) : Type 0 where
  pub left : joint * product (drop i counts) ≡ product counts
  pub bound : joint ≤ most_states ^ i

abbrev pub invariant-loop-count : goal.invariant-loop-count
invariant-loop-count l = JointLeft l.counts l.count-index l.joint

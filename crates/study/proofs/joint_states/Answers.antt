-- `study::joint_states` meets its contract: a count more is multiplied, and none is left.
use Rattle.std.proofs.Common.{ℕ, suc, ◌+◌, ◌*◌, ◌^◌, ◌≤◌, ◌<◌, ◌≡◌, ◌∙◌, sym, ap, List, arith, length, get_or, drop, drop-cons, add-one, mul_assoc, mul-le-mul}
use Rattle.std.proofs.Math.Nat.{one-mul, mul-one, pow-suc, le_trans, pow-le-pow_right}
use Rattle.std.proofs.Math.ListN.{drop_of_length-le}
use Rattle.std.proofs.Math.Dec.{lit<}
use Rattle.rules.specs.Limits.{most_components, most_states}
use Rattle.lists.specs.Product.{product}
use Rattle.study.proofs.joint_states.Invariants.{JointLeft}
use Rattle.study.proofs.joint_states.Goals as goal

joint-more : (counts : List ℕ) (i joint : ℕ) → JointLeft counts i joint → ((k : ℕ) → k < length counts → get_or counts k 0 ≤ most_states) → i < length counts
    → JointLeft counts (i + 1) (joint * get_or counts i 0)
unfolding product
joint-more counts i joint l four h =
    let split : product (drop i counts) ≡ get_or counts i 0 * product (drop (suc i) counts) = ap product (drop-cons counts i 0 h) in
    record {
      left = rw (add-one, mul_assoc) (ap (λ (n : ℕ). joint * n) (sym split) ∙ l.left);
      bound = rw (add-one, pow-suc) (mul-le-mul l.bound (four i h));
    }

joint-done : (counts : List ℕ) (i joint : ℕ) → JointLeft counts i joint → length counts ≤ i → joint ≡ product counts
unfolding product
joint-done counts i joint l h = sym (mul-one joint) ∙ ap (λ (rest : List ℕ). joint * product rest) (sym (drop_of_length-le counts h)) ∙ l.left

-- as many counts as there are component places
joint-fits : (i joint : ℕ) → joint ≤ most_states ^ i → i ≤ most_components → joint ≤ most_states ^ most_components
joint-fits i joint h most = le_trans h (pow-le-pow_right (lit< tt) most)

pub loop-count-init : goal.loop-count-init
unfolding product
loop-count-init c = record { left = one-mul _; bound = omega arith }

pub loop-count-preserved : goal.loop-count-preserved
loop-count-preserved c =
    rw c.from-joint.ensures (joint-more _ _ _ c.loop-count.invariant c.requires.small c.loop-count-test.true)

pub overflow_mul-joint : goal.overflow_mul-joint
overflow_mul-joint c =
    record { fits = omega (arith, joint-fits _ _ (loop-count-preserved c).bound (omega (arith, c.requires.few))) }

pub returns : goal.returns
returns c = joint-done _ _ _ c.loop-count.invariant c.loop-count-test.false

-- What carries the reading of a joint state's number, component by component from component 0 on: what is read so far weighs as many joint states as
-- the components that are left have, and the number of their joint state is to be added.
use Rattle.std.proofs.Common.{◌≡◌, ℕ, suc, ◌+◌, ◌*◌, ◌<◌, ◌≤◌, List, ◌∷◌, length, get_or, drop, add-one, drop-cons, arith}
use Rattle.std.proofs.Math.Nat.{mul-le-mul_left}
use Rattle.std.proofs.Math.ListN.{drop_of_length-le}
use Rattle.lists.specs.Product.{product}
use Rattle.joint_states.specs.JointStates.{JointState, number_of}
use Rattle.joint_states.proofs.Numbered.{joint-tail, number-below}

-- The states of the components below i are read to `number`.
pub record NumberLeft (counts x : List ℕ) (i number : ℕ) : Type 0 where
  pub joint : JointState counts x
  pub rest : JointState (drop i counts) (drop i x)
  pub left : number * product (drop i counts) + number_of (drop i counts) (drop i x) ≡ number_of counts x

module _ {counts x : List ℕ} where
  module _ {i number : ℕ} (l : NumberLeft counts x i number) where
    pub left-more : i < length counts → NumberLeft counts x (i + 1) (number * get_or counts i 0 + get_or x i 0)
    unfolding product number_of
    left-more h =
        let split-counts = drop-cons counts i 0 h in
        let split-x = drop-cons x i 0 (omega (arith, l.joint.long)) in
        let rest : JointState (get_or counts i 0 ∷ drop (suc i) counts) (get_or x i 0 ∷ drop (suc i) x) = rw (split-counts, split-x) at l.rest in
        let left = rw (split-counts, split-x) at l.left in
        record { joint = l.joint; rest = rw add-one (joint-tail rest); left = rw add-one (omega (arith, left)) }

    -- what is read so far is the number of a joint state too
    pub left_below : number < product counts
    left_below =
        let some : 1 ≤ product (drop i counts) = omega (arith, number-below (drop i counts) (drop i x) l.rest) in
        omega (arith, mul-le-mul_left number some, l.left, number-below counts x l.joint)

    pub left-done : length counts ≤ i → number ≡ number_of counts x
    unfolding product number_of
    left-done h =
        let left = rw (drop_of_length-le counts {i = i} h) at l.left in
        omega (arith, left)

-- Moving on by one: a carry goes from the last component towards component 0, as with the digits of a number.
use Rattle.std.proofs.Common.{◌≡◌, ℕ, zero, suc, ◌+◌, ◌*◌, ◌%◌, ◌<◌, ◌≤◌, List, [], ◌∷◌, length, get_or, drop, set, sym, ap, subst, ◌∙◌, drop-cons, arith}
use Rattle.std.proofs.Math.Nat.{not-suc-le-zero, le_of_suc-le-suc, mod-eq_of_lt, mod_self}
use Rattle.std.proofs.Math.ListN.{length-set, drop_of_length-le}
use Rattle.lists.specs.Product.{product}
use Rattle.lists.proofs.Sets.{set_keeps}
use Rattle.joint_states.specs.JointStates.{JointState, number_of}
use Rattle.joint_states.proofs.Numbered.{number-below}

joint-set : (counts x : List ℕ) (k v : ℕ) → JointState counts x → v < get_or counts k 0 → JointState counts (set x k v)
joint-set counts x k v j h =
    record {
      long = length-set x k v ∙ j.long;
      below = λ i less. set_keeps x k v 0 (λ (n : ℕ). n < get_or counts i 0) i (j.below i less) (λ e. rw e h);
    }

-- each unit of component k weighs as many joint states as the later components have
number-set : (counts x : List ℕ) (k v : ℕ) → length x ≡ length counts → k < length counts
    → number_of counts (set x k v) + get_or x k 0 * product (drop (suc k) counts) ≡ number_of counts x + v * product (drop (suc k) counts)
unfolding number_of
number-set [] x k v e h = absurd (not-suc-le-zero h)
number-set (c ∷ cs) [] k v e h = absurd (omega (arith, e))
number-set (c ∷ cs) (s ∷ x) zero v e h = omega arith
number-set (c ∷ cs) (s ∷ x) (suc k) v e h =
    let rest = number-set cs x k v (omega (arith, e)) (le_of_suc-le-suc h) in
    omega (arith, rest)

weight : (counts : List ℕ) (k : ℕ) → k < length counts → product (drop k counts) ≡ get_or counts k 0 * product (drop (suc k) counts)
unfolding product
weight counts k h = ap product (drop-cons counts k 0 h)

-- The components from i on stood at their last state and now stand at 0; one is to be carried to the component before them.
pub record Carried (counts x₀ : List ℕ) (i : ℕ) (x : List ℕ) : Type 0 where
  pub inside : i ≤ length counts
  pub joint : JointState counts x
  pub due : number_of counts x + product (drop i counts) ≡ number_of counts x₀ + 1

-- y is the joint state behind x₀
pub record Next (counts x₀ y : List ℕ) : Type 0 where
  pub joint : JointState counts y
  pub number : number_of counts y ≡ (number_of counts x₀ + 1) % product counts

module _ (counts x₀ : List ℕ) where
  pub carry-start : JointState counts x₀ → Carried counts x₀ (length counts) x₀
  unfolding product
  carry-start j = record { inside = omega arith; joint = j; due = ap (λ (l : List ℕ). number_of counts x₀ + product l) (drop_of_length-le counts {i = length counts} (omega arith)) }

  -- component k stands at its last state: it goes back to 0, and carries on
  pub carry-more : (i k : ℕ) (x : List ℕ) → Carried counts x₀ i x → suc k ≡ i → get_or counts k 0 ≤ get_or x k 0 + 1 → Carried counts x₀ k (set x k 0)
  carry-more i k x c e last =
      let less : k < length counts = omega (arith, c.inside) in
      let below = c.joint.below k less in
      let state : get_or counts k 0 ≡ get_or x k 0 + 1 = omega arith in
      let moved = number-set counts x k 0 c.joint.long less in
      record {
        inside = omega arith;
        joint = joint-set counts x k 0 c.joint (omega arith);
        due = rw (weight counts k less, state) (omega (arith, moved, rw (sym e) at c.due));
      }

  -- component k has a further state
  pub carry-stops : (i k : ℕ) (x : List ℕ) → Carried counts x₀ i x → suc k ≡ i → get_or x k 0 + 1 < get_or counts k 0 → Next counts x₀ (set x k (get_or x k 0 + 1))
  carry-stops i k x c e further =
      let y = set x k (get_or x k 0 + 1) in
      let moved = number-set counts x k (get_or x k 0 + 1) c.joint.long (omega (arith, c.inside)) in
      let joint = joint-set counts x k (get_or x k 0 + 1) c.joint (omega arith) in
      let number : number_of counts y ≡ number_of counts x₀ + 1 = omega (arith, moved, rw (sym e) at c.due) in
      record { joint = joint; number = number ∙ sym (mod-eq_of_lt (subst (λ (n : ℕ). n < product counts) number (number-below counts y joint))) }

  -- no component had a further state: the first joint state comes behind the last
  pub carry-ends : (i : ℕ) (x : List ℕ) → JointState counts x₀ → Carried counts x₀ i x → i ≤ 0 → Next counts x₀ x
  carry-ends i x j c h =
      let last = number-below counts x₀ j in
      let first : i ≡ 0 = omega arith in
      let due = rw first at c.due in
      let all : number_of counts x₀ + 1 ≡ product counts = omega (arith, last, due) in
      let none : number_of counts x ≡ 0 = omega (arith, last, due) in
      record { joint = c.joint; number = none ∙ sym (ap (λ (n : ℕ). n % product counts) all ∙ mod_self (product counts)) }

-- The exact probability goes by the joint states concerned alone: two tests that agree on every joint state have the same.
use Prim.Native.Nat.{ℕ}
use mathlib.Core.Path.{◌≡◌, ap}
use mathlib.Core.Bool.{Bool}
use mathlib.Core.List.{List, []}
use lib.ListN.{get_or}
use Rattle.lists.specs.Counting.{sum_over}
use Rattle.lists.proofs.Those.{those-alike}
use Rattle.joint_states.specs.JointStates.{JointState, joint_states}
use Rattle.joint_states.proofs.Numbered.{all-joint}
use Rattle.probability.specs.Exact.{weight, exact}

pub exact-alike : (rows : List (List ℕ)) (counts : List ℕ) (f g : List ℕ → Bool) → ((x : List ℕ) → JointState counts x → f x ≡ g x)
    → exact rows counts f ≡ exact rows counts g
unfolding exact
exact-alike rows counts f g agree =
    ap (sum_over (weight rows))
    (those-alike f g [] (joint_states counts) (λ k h. agree (get_or (joint_states counts) k []) (all-joint counts k h)))

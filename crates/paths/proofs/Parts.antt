-- The part of a block at each state of its first component is a block of the later components, with the same classes.
use Prim.Native.Nat.{ℕ, suc, ◌*◌, ◌<◌, ◌≤◌}
use mathlib.Core.Path.{◌≡◌, sym, ◌∙◌}
use mathlib.Core.List.{List, ◌∷◌}
use native.Mathlib.Nat.{mul-le-mul_right}
use native.Mathlib.Omega.{arith}
use lib.ListN.{length, drop, length-drop}
use lib.Seq.{length-take-le, get_or-take, get_or-drop}
use Rattle.lists.specs.Product.{product}
use Rattle.joint_states.specs.JointStates.{JointState, number_of}
use Rattle.joint_states.proofs.Numbered.{number-below}
use Rattle.entries.specs.Entries.{blank_mark}
use Rattle.paths.specs.Paths.{part}
use Rattle.paths.specs.Blocks.{Block, class_at}

module _ {c : ℕ} {cs block : List ℕ} (b : Block (c ∷ cs) block) where
  pub first_some : 0 < c
  first_some = b.some 0 (omega arith)

  pub first-most : c ≤ blank_mark
  first-most = b.most 0 (omega arith)

  pub part-block : (s : ℕ) → s < c → Block cs (part (product cs) s block)
  unfolding product
  part-block s h =
      record {
        long = length-take-le (product cs) (drop (s * product cs) block) inside;
        some = λ k less. b.some (suc k) (omega arith);
        most = λ k less. b.most (suc k) (omega arith);
      }
    where
      inside : product cs ≤ length (drop (s * product cs) block)
      inside =
          let room : suc s * product cs ≤ c * product cs = mul-le-mul_right (product cs) h in
          rw (length-drop (s * product cs) block) (omega (arith, room, b.long))

-- the class for a joint state stands in the part of its first state
pub class-part : (c : ℕ) (cs block : List ℕ) (s : ℕ) (x : List ℕ) → JointState cs x
    → class_at (c ∷ cs) block (s ∷ x) ≡ class_at cs (part (product cs) s block) x
unfolding number_of
class-part c cs block s x j =
    let m = product cs in
    sym (get_or-take m (drop (s * m) block) (number_of cs x) 0 (number-below cs x j) ∙ get_or-drop (s * m) block (number_of cs x) 0)

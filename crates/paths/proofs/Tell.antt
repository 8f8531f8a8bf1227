-- Blocks with the same paths are the same: each number is that of a joint state, and the one path that it fits bears its class in either block.
use Prim.Native.Nat.{ℕ, ◌<◌}
use mathlib.Core.Path.{◌≡◌, sym, ap, ◌∙◌}
use mathlib.Core.List.{List, []}
use lib.ListN.{length, get_or}
use lib.Seq.{ext_get_or}
use Rattle.joint_states.specs.JointStates.{JointState}
use Rattle.joint_states.proofs.Numbered.{with_number}
use Rattle.paths.specs.Paths.{paths}
use Rattle.paths.specs.Words.{fitting}
use Rattle.entries.specs.Entries.{class_borne}
use Rattle.paths.specs.Blocks.{Block, class_at}
use Rattle.paths.specs.Theorems.{PathsTell}
use Rattle.paths.proofs.OnePath.{one-path-each}

-- the class that the entries tell for a joint state: the one that the path which it fits bears
abbrev told : ℕ → List ℕ → List (List ℕ) → ℕ
told n x entries = class_borne n (get_or (fitting x entries) 0 [])

told-class : (counts block : List ℕ) → Block counts block → (x : List ℕ) → JointState counts x
    → told (length counts) x (paths counts block) ≡ class_at counts block x
told-class counts block b x j =
    let one = one-path-each counts block b x j in
    ap (λ (fit : List (List ℕ)). class_borne (length counts) (get_or fit 0 [])) one.only ∙ one.bears

pub paths-tell : PathsTell
paths-tell counts a b left right e = ext_get_or 0 a b (left.long ∙ sym right.long) alike
  where
    alike : (k : ℕ) → k < length a → get_or a k 0 ≡ get_or b k 0
    alike k h =
        let w = with_number counts k (rw left.long at h) in
        let x = w.joint in
        ap (λ (place : ℕ). get_or a place 0) (sym w.number)
        ∙ sym (told-class counts a left x w.is_joint)
        ∙ ap (told (length counts) x) e
        ∙ told-class counts b right x w.is_joint
        ∙ ap (λ (place : ℕ). get_or b place 0) w.number

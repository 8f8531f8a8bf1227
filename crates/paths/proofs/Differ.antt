-- Two joint states that differ in one component alone, without their first component: they are the same if it is the first, and else differ in
-- that component alone.
use Prim.Native.Nat.{ℕ, zero, suc, ◌<◌}
use mathlib.Core.Path.{◌≡◌, refl, sym, ap, ◌∙◌}
use mathlib.Core.List.{List, ◌∷◌}
use native.Mathlib.Nat.{suc-ne-zero, suc_inj}
use native.Mathlib.Omega.{arith}
use lib.ListN.{get_or}
use lib.Seq.{ext_get_or}
use Rattle.joint_states.specs.JointStates.{JointState}
use Rattle.joint_states.proofs.Numbered.{joint-cons, joint-tail}
use Rattle.entries.specs.Entries.{blank_mark}
use Rattle.paths.specs.Words.{Settled, DifferAt}

-- state s has what a mark asks: to be the marked state, or anything if the mark is blank
abbrev pub Meets : ℕ → ℕ → Type 0
Meets mark s = (mark ≡ blank_mark → ⊥) → s ≡ mark

module _ {c : ℕ} {cs : List ℕ} where
  -- they differ in the first
  pub differ-first : {entry : List ℕ} {s t : ℕ} {x y : List ℕ} → DifferAt (c ∷ cs) 0 entry (s ∷ x) (t ∷ y) → x ≡ y
  differ-first {x = x} {y = y} d =
      ext_get_or 0 x y ((joint-tail d.first).long ∙ sym (joint-tail d.second).long) (λ k h. d.others (suc k) (suc-ne-zero k))

  pub first-differs : {entry : List ℕ} {s t : ℕ} {x : List ℕ} → s < c → t < c → JointState cs x → DifferAt (c ∷ cs) 0 entry (s ∷ x) (t ∷ x)
  first-differs {entry} {s} {t} {x} h less j =
      record { first = joint-cons h j; second = joint-cons less j; before = λ k lower. absurd (omega arith); others = others }
    where
      others : (k : ℕ) → (k ≡ 0 → ⊥) → get_or (s ∷ x) k 0 ≡ get_or (t ∷ x) k 0
      others zero other = absurd (other refl)
      others (suc k) other = refl

  -- they differ in a later one
  module _ {k mark : ℕ} {entry : List ℕ} {s : ℕ} {x y : List ℕ} where
    pub differ-later : {t : ℕ} → DifferAt (c ∷ cs) (suc k) (mark ∷ entry) (s ∷ x) (t ∷ y) → DifferAt cs k entry x y
    differ-later d =
        record {
          first = joint-tail d.first;
          second = joint-tail d.second;
          before = λ i h. d.before (suc i) (omega arith);
          others = λ i other. d.others (suc i) (λ same. other (suc_inj same));
        }

    pub later-differs : s < c → Meets mark s → DifferAt cs k entry x y → DifferAt (c ∷ cs) (suc k) (mark ∷ entry) (s ∷ x) (s ∷ y)
    later-differs h own d =
        record { first = joint-cons h d.first; second = joint-cons h d.second; before = before; others = others }
      where
        before : (i : ℕ) → i < suc k → Settled (mark ∷ entry) i → get_or (s ∷ x) i 0 ≡ get_or (mark ∷ entry) i 0
        before zero less settled = own settled
        before (suc i) less settled = d.before i (omega arith) settled

        others : (i : ℕ) → (i ≡ suc k → ⊥) → get_or (s ∷ x) i 0 ≡ get_or (s ∷ y) i 0
        others zero other = refl
        others (suc i) other = d.others i (λ same. other (ap suc same))

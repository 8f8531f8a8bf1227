-- 16 as a call's code finds it: where it stands it is the first of any list of breaches, and where it does not the study is sound and the next decides.
use Prim.Native.Nat.{ℕ}
use mathlib.Core.Path.{◌≡◌, sym, ap, ◌∙◌}
use mathlib.Core.Bool.{Bool}
use mathlib.Core.List.{List, [], ◌∷◌}
use Rattle.rules.specs.Breach.{first_breach}
use Rattle.rules.specs.Table.{unsound_fault}
use Rattle.rules.proofs.Kept.{front-broken, second-decides}
use Rattle.study.specs.declared.Study.{Study}
use Rattle.soundness.specs.Check.{sound}
use Rattle.soundness.specs.Sound.{Sound}
use Rattle.soundness.proofs.Checked.{no-unsound}

module _ (t : Study) {is_sound : Bool} {fault : ℕ} (is : is_sound ≡ sound t) (judged : fault ≡ unsound_fault is_sound) where
  pub unsound-is : fault ≡ unsound_fault (sound t)
  unsound-is = judged ∙ ap unsound_fault is

  -- where it stands it is the first of any list
  pub unsound-first : (bs : List ℕ) → (fault ≡ 0 → ⊥) → fault ≡ first_breach (unsound_fault (sound t) ∷ bs)
  unsound-first bs some = front-broken bs unsound-is some

  module _ (none : fault ≡ 0) where
    kept : unsound_fault (sound t) ≡ 0
    kept = sym unsound-is ∙ none

    pub sound-behind : Sound t
    sound-behind = no-unsound t kept

    -- where it does not, the next breach decides
    pub next-first : (b : ℕ) → first_breach (unsound_fault (sound t) ∷ b ∷ []) ≡ b
    next-first b = second-decides (unsound_fault (sound t)) b kept

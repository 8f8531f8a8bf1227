-- Each entry has a mark for each component, a state that the component has where it is settled, and some joint state fits it. What carries it: an entry is a
-- mark in front of an entry of the later components, and so is a joint state that fits it.
use Prim.Native.Nat.{ℕ, zero, suc, ◌<◌}
use mathlib.Core.Path.{◌≡◌, refl, sym, subst, ◌∙◌}
use mathlib.Core.Bool.{Bool, true, false, ◌||◌, or-true}
use mathlib.Core.List.{List, [], ◌∷◌}
use native.Mathlib.Omega.{arith}
use lib.Dec.{eqb}
use lib.ListN.{length, get_or}
use borrow.Author.Tests.{eq-eqb}
use Rattle.lists.specs.Product.{product}
use Rattle.joint_states.specs.JointStates.{number_of}
use Rattle.joint_states.proofs.Numbered.{joint-cons}
use Rattle.entries.specs.Entries.{blank_mark}
use Rattle.entries.proofs.Entries.{own-long, own-class, class-behind}
use Rattle.paths.specs.Blocks.{class_at}
use Rattle.paths.specs.Paths.{part, is_blank, paths}
use Rattle.paths.specs.Theorems.{EachIsEntry}
use Rattle.paths.specs.Ways.{mark}
use Rattle.paths.specs.Words.{Settled, fits, IsEntry}
use Rattle.paths.proofs.Parts.{part-block, class-part}
use Rattle.paths.proofs.Placed.{path-placed}

-- a state fits its own mark
own-fits : (blank : Bool) (s : ℕ) → (eqb (mark blank s) blank_mark || eqb (mark blank s) s) ≡ true
unfolding mark
own-fits true s = refl
own-fits false s = rw (eq-eqb s s refl) (or-true (eqb s blank_mark))

-- and a mark that is settled is that state
own-state : (blank : Bool) (s c : ℕ) → s < c → (mark blank s ≡ blank_mark → ⊥) → mark blank s < c
unfolding mark
own-state true s c h settled = absurd (settled refl)
own-state false s c h settled = h

-- one component more in front
entry_more : (c : ℕ) (cs block : List ℕ) (blank : Bool) (s : ℕ) (row : List ℕ) → s < c → IsEntry cs (class_at cs (part (product cs) s block)) row
    → IsEntry (c ∷ cs) (class_at (c ∷ cs) block) (mark blank s ∷ row)
unfolding fits
entry_more c cs block blank s row h rest =
    record {
      long = omega (arith, rest.long);
      states = states;
      joint = s ∷ rest.joint;
      is_joint = joint-cons h rest.is_joint;
      fitted = rw (own-fits blank s, rest.fitted) refl;
      bears = class-behind (mark blank s) (length cs) row ∙ rest.bears ∙ sym (class-part c cs block s rest.joint rest.is_joint);
    }
  where
    states : (k : ℕ) → k < length (c ∷ cs) → Settled (mark blank s ∷ row) k → get_or (mark blank s ∷ row) k blank_mark < get_or (c ∷ cs) k 0
    states zero less settled = own-state blank s c h settled
    states (suc k) less settled = rest.states k (omega arith) settled

pub each-entry : EachIsEntry
unfolding paths fits number_of
each-entry [] block b zero h =
    record {
      long = own-long [] (get_or block 0 0);
      states = λ k less settled. absurd (omega arith);
      joint = [];
      is_joint = record { long = refl; below = λ k less. absurd (omega arith) };
      fitted = refl;
      bears = own-class [] (get_or block 0 0);
    }
each-entry [] block b (suc i) h = absurd (omega arith)
each-entry (c ∷ cs) block b i h =
    let p = path-placed c cs block b i h in
    let rest = each-entry cs (part (product cs) p.state block) (part-block b p.state p.below) p.row p.inside in
    subst (IsEntry (c ∷ cs) (class_at (c ∷ cs) block)) (sym p.holds)
    (entry_more c cs block (is_blank c (product cs) block) p.state _ p.below rest)

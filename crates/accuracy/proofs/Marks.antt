-- Each settled mark of a path is a state of its component: by induction over the components, since an entry is the mark of a state in front of
-- an entry of the later components.
use Prim.Native.Nat.{ℕ, zero, suc, ◌<◌}
use mathlib.Core.Path.{◌≡◌, refl, sym, subst}
use mathlib.Core.Bool.{Bool, true, false}
use mathlib.Core.List.{List, [], ◌∷◌}
use native.Mathlib.Nat.{not-suc-le-zero}
use native.Mathlib.Omega.{arith}
use lib.ListN.{length, get_or}
use Rattle.lists.specs.Product.{product}
use Rattle.lists.proofs.Elements.{Every}
use Rattle.paths.specs.Blocks.{Block}
use Rattle.entries.specs.Entries.{blank_mark}
use Rattle.paths.specs.Paths.{part, is_blank, paths}
use Rattle.paths.specs.Ways.{mark}
use Rattle.paths.specs.Words.{Settled}
use Rattle.paths.proofs.Parts.{part-block}
use Rattle.paths.proofs.Placed.{path-placed}

-- the entry has a mark for each component, and a settled one is below the component's count
pub record Marked (counts entry : List ℕ) : Type 0 where
  pub long : length counts < length entry
  pub below : (k : ℕ) → k < length counts → Settled entry k → get_or entry k blank_mark < get_or counts k 0

module _ {c : ℕ} {cs : List ℕ} where
  pub marked-none : Marked (c ∷ cs) [] → ⊥
  marked-none marked = not-suc-le-zero marked.long

  marked-cons : {m : ℕ} {entry : List ℕ} → ((m ≡ blank_mark → ⊥) → m < c) → Marked cs entry → Marked (c ∷ cs) (m ∷ entry)
  marked-cons {m} {entry} first marked = record { long = omega (arith, marked.long); below = below }
    where
      below : (k : ℕ) → k < length (c ∷ cs) → Settled (m ∷ entry) k → get_or (m ∷ entry) k blank_mark < get_or (c ∷ cs) k 0
      below zero h = first
      below (suc k) h = marked.below k (omega arith)

  pub marked-later : {m : ℕ} {entry : List ℕ} → Marked (c ∷ cs) (m ∷ entry) → Marked cs entry
  marked-later marked = record { long = omega (arith, marked.long); below = λ k h. marked.below (suc k) (omega arith) }

-- a mark that is not blank is its state
mark-state : (b : Bool) (s c : ℕ) → s < c → (mark b s ≡ blank_mark → ⊥) → mark b s < c
unfolding mark
mark-state true s c h settled = absurd (settled refl)
mark-state false s c h settled = h

pub paths-marked : (counts block : List ℕ) → Block counts block → Every (Marked counts) [] (paths counts block)
unfolding paths
paths-marked [] block b zero h = record { long = omega arith; below = λ k less. absurd (not-suc-le-zero less) }
paths-marked [] block b (suc i) h = absurd (omega arith)
paths-marked (c ∷ cs) block b i h =
    let p = path-placed c cs block b i h in
    let rest = paths-marked cs (part (product cs) p.state block) (part-block b p.state p.below) p.row p.inside in
    subst (Marked (c ∷ cs)) (sym p.holds) (marked-cons (mark-state (is_blank c (product cs) block) p.state c p.below) rest)

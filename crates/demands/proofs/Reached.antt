-- The studies that the calls hand out are sound and have all their places: an opened one, and an edited one where the one before did.
use Prim.Native.Nat.{ℕ, ◌<◌}
use native.Mathlib.Omega.{arith}
use lib.ListN.{length, length-set}
use Rattle.study.specs.declared.Study.{Study}
use Rattle.study.specs.Places.{Shaped}
use Rattle.soundness.specs.Sound.{Sound}
use Rattle.soundness.proofs.Ranges.{components-most, loads-most}
use Rattle.opening.proofs.Opened.Study.{opened-sound, opened-shaped}
use Rattle.demands.specs.Demand1.{ReachedSound}
use Rattle.demands.specs.Edits.{Edit, probabilities, customers, minutes, changed, Reached, opened, edited}
use Rattle.demands.proofs.Edited.{either, changed-sound}

pub reached-sound : ReachedSound
reached-sound t (opened bytes done) = opened-sound bytes done
reached-sound t (edited e u r) = either e u (λ a b. Sound a.study) (changed-sound e u) (λ some. reached-sound u r)

-- an edit keeps the places of every array
changed-shaped : (e : Edit) (t : Study) → Shaped t → Shaped (changed e t)
changed-shaped (probabilities i p1 p2 p3) t s =
    record { components = simp length-set s.components; gates = s.gates; loads = s.loads; gate = s.gate }
changed-shaped (customers j n) t s = record { components = s.components; gates = s.gates; loads = simp length-set s.loads; gate = s.gate }
changed-shaped (minutes j n) t s = record { components = s.components; gates = s.gates; loads = simp length-set s.loads; gate = s.gate }

pub reached-shaped : (t : Study) → Reached t → Shaped t
reached-shaped t (opened bytes done) = opened-shaped bytes
reached-shaped t (edited e u r) =
    let shaped = reached-shaped u r in
    either e u (λ a b. Shaped a.study) (λ none. changed-shaped e u shaped) (λ some. shaped)

-- so an item that such a study has, it has a place for
module _ (t : Study) (r : Reached t) where
  pub component-inside : (i : ℕ) → i < t.components → i < length t.component
  component-inside i below = omega (arith, (reached-shaped t r).components, components-most t (reached-sound t r))

  pub load_inside : (j : ℕ) → j < t.loads → j < length t.load
  load_inside j below = omega (arith, (reached-shaped t r).loads, loads-most t (reached-sound t r))

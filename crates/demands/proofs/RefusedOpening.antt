-- A refused opening returns a study of zeros, by its definition, and that study is unsound: it has no components.
use Prim.Native.Nat.{ℕ}
use mathlib.Core.Path.{◌≡◌, refl}
use mathlib.Core.Bool.{Bool, true, false, cond}
use native.Mathlib.Omega.{arith}
use lib.Dec.{eqb}
use lib.ListN.{length}
use Rattle.rules.specs.Breach.{refuse, outside}
use Rattle.rules.specs.Table.{left_fault}
use Rattle.study.specs.declared.Study.{Study}
use Rattle.study.specs.Zero.{zero_study}
use Rattle.gate_order.specs.Order.{ordered}
use Rattle.answers.specs.Answered.{answered}
use Rattle.answers.proofs.Told.{refused-told}
use Rattle.reading.specs.Reader.{Read, refused, got}
use Rattle.soundness.specs.Sound.{Sound}
use Rattle.opening.specs.Opening.{study, refused_opening, answer, opened}
use Rattle.demands.specs.Demand1.{RefusedOpening}
use Rattle.std.specs.Prelude.{Err}
use Rattle.answers.specs.Answers.{finished}

-- an answer by a breach has a refusal only where it is the refused one
either-zeros : (b : Bool) (t : Study) (breach n : ℕ) → (cond b (record { outcome = finished; study = t }) (refused_opening breach)).outcome ≡ Err n
    → (cond b (record { outcome = finished; study = t }) (refused_opening breach)).study ≡ zero_study
unfolding refused_opening
either-zeros true t breach n is = let both : ◌≡◌ {A = ℕ} 0 1 = cc in absurd (omega arith)
either-zeros false t breach n is = refl

refused-zeros : (r : Read Study) (n : ℕ) → (answer r).outcome ≡ Err n → (answer r).study ≡ zero_study
unfolding answer answered refused_opening
refused-zeros (refused m) n is = refl
refused-zeros (got t rest) n is = either-zeros (eqb (left_fault (length rest)) 0) (ordered t) (left_fault (length rest)) n is

-- no components is fewer than one
no-components : Sound zero_study → ⊥
unfolding refuse outside zero_study
no-components s = omega (arith, s.components)

pub refused-opening : RefusedOpening
unfolding opened
refused-opening = record { zeros = λ bytes n told. refused-zeros (study bytes) n (refused-told _ n told); unsound = no-components }

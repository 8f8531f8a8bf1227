-- The chance of surviving: 23 is its one breach, and an answer has the pair that is worked out, of which `survival` shows the promise.
use Prim.Native.Nat.{ℕ, ◌*◌, ◌<◌, ◌≤◌}
use mathlib.Core.Path.{◌≡◌, refl, ap, ◌∙◌}
use mathlib.Core.List.{[]}
use native.Mathlib.Omega.{arith}
use borrow.Author.Tests.{lt-ltb, le-ltb}
use Rattle.rules.specs.Breach.{refuse, first_breach}
use Rattle.rules.specs.Limits.{farthest}
use Rattle.rules.proofs.Kept.{list-last}
use Rattle.answers.specs.Told.{result, refusal, chance_values, survival_told}
use Rattle.answers.proofs.Answered.{answered-done, answered-tells, tells-result, tells-refusal, no-breach, values-told}
use Rattle.answers.proofs.Told.{chances-told}
use Rattle.survival.specs.Chances.{survival_breaches, survival_fault, chances_of, survival_given}
use Rattle.survival.proofs.Promise.{survival-promises}
use Rattle.demands.specs.Demand1.{Refuses}
use Rattle.demands.specs.Survival.{SurvivalRefuses, SurvivalEncloses}
use Rattle.demands.proofs.Refusals.{refuses}
use Rattle.std.specs.Prelude.{Ok, Err}

module _ (fit hours : ℕ) where
  abbrev exponent : ℕ
  exponent = fit * hours

  call-refuses : Refuses (survival_told (survival_given fit hours)) (survival_breaches fit hours) (chance_values (chances_of exponent)) []
  unfolding survival_given survival_fault
  call-refuses = refuses _ _ [] (answered-tells Err _ _ survival_told _ (λ n. refl) refl) tt

  far : farthest < exponent → first_breach (survival_breaches fit hours) ≡ 23
  unfolding refuse
  far h = list-last _ ∙ rw (lt-ltb farthest exponent h) refl

  near : exponent ≤ farthest → first_breach (survival_breaches fit hours) ≡ 0
  unfolding refuse
  near h = list-last _ ∙ rw (le-ltb farthest exponent h) refl

  too_far : farthest < exponent → survival_told (survival_given fit hours) ≡ refusal 23
  too_far h =
      call-refuses.answer ∙ tells-refusal _ _ (λ none. absurd (omega (arith, far h, none))) ∙ ap refusal (far h)

  given : exponent ≤ farthest → survival_told (survival_given fit hours) ≡ result (chance_values (chances_of exponent))
  given h = call-refuses.answer ∙ tells-result _ _ (near h)

pub survival-refuses : SurvivalRefuses
survival-refuses = record { refuses = call-refuses; too_far = too_far; given = given }

pub survival-encloses : SurvivalEncloses
unfolding survival_given survival_fault
survival-encloses fit hours c told =
    let is = (call-refuses fit hours).answer in
    let none = no-breach _ _ (chance_values c) is told in
    let same = chances-told (chances_of (fit * hours)) c (values-told _ _ (chance_values c) is told) in
    survival-promises fit hours c (answered-done Err _ _ none ∙ ap Ok same)

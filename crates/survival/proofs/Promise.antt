-- Chances that are answered keep the promise: an exponent that is not too far is one that the table of factors reaches,
-- of which `exponential` shows it.
use Rattle.std.proofs.Common.{ℕ, ◌≤◌, ◌≡◌, refl, sym, ap, subst, ◌∙◌, arith, Ok, Err}
use Rattle.rules.specs.Limits.{farthest}
use Rattle.rules.proofs.Kept.{list-last}
use Rattle.rules.proofs.Rows.{far-kept}
use Rattle.answers.specs.declared.chances.Chances.{Chances}
use Rattle.answers.specs.Told.{chance_values, survival_told}
use Rattle.answers.proofs.Answered.{answered-done, answered-tells, no-breach}
use Rattle.exponential.proofs.Worked.{worked-survives}
use Rattle.survival.specs.Chances.{exponent_of, survival_fault, chances_of, survival_given}
use Rattle.survival.specs.Promise.{Answers, FourBounds, SurvivalPromises}
use Rattle.answers.specs.Answers.{SurvivalAnswer}

four-bounds : (exponent : ℕ) → exponent ≤ farthest → FourBounds exponent (chances_of exponent)
four-bounds exponent h =
    let survives = worked-survives exponent (omega (arith, h)) in
    record {
      survival = survives;
      failure_lower = omega (arith, survives.most);
      failure_upper = omega (arith, survives.ordered, survives.most);
    }

-- the chances that an answer holds
abbrev chances_in : SurvivalAnswer → Chances
chances_in (Ok c) = c
chances_in (Err n) = chances_of 0

pub survival-promises : SurvivalPromises
unfolding survival_given survival_fault
survival-promises fit hours c answer =
    let exponent = exponent_of fit hours in
    let told = answered-tells Err (survival_fault fit hours) (Ok (chances_of exponent)) survival_told _ (λ n. refl) refl in
    let none = no-breach _ _ (chance_values c) told (ap survival_told answer) in
    let same = sym (answered-done Err _ _ none) ∙ answer in
    subst (FourBounds exponent) (ap chances_in same) (four-bounds exponent (far-kept exponent (sym (list-last _) ∙ none)))

-- what is answered as it is given keeps it too
pub answers : (fit hours : ℕ) (answer : SurvivalAnswer) → answer ≡ survival_given fit hours → Answers fit hours answer
answers fit hours answer is = record { given = is; promise = λ c chances. survival-promises fit hours c (sym is ∙ chances) }

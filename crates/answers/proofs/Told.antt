-- An answer is known by what it tells: each case back from its number or its values.
use Prim.Native.Nat.{ℕ}
use mathlib.Core.Path.{◌≡◌, refl, ap}
use mathlib.Core.List.{[]}
use native.Mathlib.Omega.{arith}
use Rattle.units.specs.declared.bounds.Enclosure.{Enclosure}
use Rattle.answers.specs.declared.chances.Chances.{Chances}
use Rattle.answers.specs.declared.figures.Caidi.{Caidi}
use Rattle.answers.specs.declared.figures.Caidi.TheVariants.{Bounds, NotStated}
use Rattle.answers.specs.declared.figures.Figures.{Figures}
use Rattle.answers.specs.Told.{result, refusal, pair_values, figure_values, chance_values, outcome_told}
use Rattle.std.specs.Prelude.{Ok, Err}
use Rattle.answers.specs.Answers.{Outcome, finished}

pub done-told : (o : Outcome) → outcome_told o ≡ result [] → o ≡ finished
done-told (Ok a) told = refl
done-told (Err n) told = let z : ◌≡◌ {A = ℕ} 0 1 = cc in absurd (omega arith)

pub refused-told : (o : Outcome) (n : ℕ) → outcome_told o ≡ refusal n → o ≡ Err n
refused-told (Ok a) n told = let z : ◌≡◌ {A = ℕ} 0 1 = cc in absurd (omega arith)
refused-told (Err m) n told = ap Err (cc)

-- a pair by its values
pub pair-told : (p q : Enclosure) → pair_values p ≡ pair_values q → p ≡ q
pair-told p q told =
    let lower : p.lower ≡ q.lower = cc in
    let upper : p.upper ≡ q.upper = cc in
    λ i. record { lower = lower i; upper = upper i }

-- two pairs one behind the other
chances-same : (a b c d : Enclosure) → chance_values (record { survival = a; failure = b }) ≡ chance_values (record { survival = c; failure = d })
    → ◌≡◌ {A = Chances} (record { survival = a; failure = b }) (record { survival = c; failure = d })
chances-same a b c d told =
    let survival = pair-told a c (cc) in
    let failure = pair-told b d (cc) in
    λ i. record { survival = survival i; failure = failure i }

pub chances-told : (c d : Chances) → chance_values c ≡ chance_values d → c ≡ d
chances-told c d = chances-same c.survival c.failure d.survival d.failure

-- four pairs, or three where CAIDI is not stated
figures-same : (a b d e f h : Enclosure) (c g : Caidi)
    → figure_values (record { saifi = a; saidi = b; caidi = c; maifi = d }) ≡ figure_values (record { saifi = e; saidi = f; caidi = g; maifi = h })
    → ◌≡◌ {A = Figures} (record { saifi = a; saidi = b; caidi = c; maifi = d }) (record { saifi = e; saidi = f; caidi = g; maifi = h })
figures-same a b d e f h (Bounds p) (Bounds q) told =
    let saifi = pair-told a e (cc) in
    let saidi = pair-told b f (cc) in
    let caidi = pair-told p q (cc) in
    let maifi = pair-told d h (cc) in
    λ i. record { saifi = saifi i; saidi = saidi i; caidi = Bounds (caidi i); maifi = maifi i }
figures-same a b d e f h NotStated NotStated told =
    let saifi = pair-told a e (cc) in
    let saidi = pair-told b f (cc) in
    let maifi = pair-told d h (cc) in
    λ i. record { saifi = saifi i; saidi = saidi i; caidi = NotStated; maifi = maifi i }
figures-same a b d e f h (Bounds p) NotStated told = let z : ◌≡◌ {A = ℕ} 0 1 = cc in absurd (omega arith)
figures-same a b d e f h NotStated (Bounds q) told = let z : ◌≡◌ {A = ℕ} 0 1 = cc in absurd (omega arith)

pub figures-told : (f g : Figures) → figure_values f ≡ figure_values g → f ≡ g
figures-told f g =
    figures-same f.saifi f.saidi f.maifi g.saifi g.saidi g.maifi f.caidi g.caidi

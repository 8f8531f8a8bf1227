-- What CAIDI is, where it is not stated and where it is; and what its bounds are, where it has any.
use Prim.Native.Nat.{ℕ}
use mathlib.Core.Path.{◌≡◌, refl, sym, ◌∙◌}
use native.Mathlib.Omega.{arith}
use borrow.Author.Tests.{eq-eqb, ne_eqb}
use Rattle.units.specs.declared.bounds.Enclosure.{Enclosure}
use Rattle.answers.specs.declared.figures.Caidi.TheVariants.{Bounds, NotStated}
use Rattle.indices.specs.Figures.{quotients, caidi}

not-bounds : (bounds : Enclosure) → NotStated ≡ Bounds bounds → ⊥
not-bounds bounds e = let z : ◌≡◌ {A = ℕ} 0 1 = cc in omega arith

same-bounds : (a b : Enclosure) → Bounds a ≡ Bounds b → a ≡ b
same-bounds a b e = cc

module _ (loss_low loss_high minutes_low minutes_high : ℕ) where
  pub caidi-not-stated : loss_low ≡ 0 → caidi loss_low loss_high minutes_low minutes_high ≡ NotStated
  unfolding caidi
  caidi-not-stated none = rw (eq-eqb loss_low 0 none) refl

  pub caidi-stated : (loss_low ≡ 0 → ⊥)
      → caidi loss_low loss_high minutes_low minutes_high ≡ Bounds (quotients minutes_low loss_high minutes_high loss_low)
  unfolding caidi
  caidi-stated some = rw (ne_eqb loss_low 0 some) refl

  module _ {bounds : Enclosure} (stated : caidi loss_low loss_high minutes_low minutes_high ≡ Bounds bounds) where
    pub stated-some : loss_low ≡ 0 → ⊥
    stated-some none = not-bounds bounds (sym (caidi-not-stated none) ∙ stated)

    pub stated-bounds : quotients minutes_low loss_high minutes_high loss_low ≡ bounds
    stated-bounds = same-bounds _ bounds (sym (caidi-stated stated-some) ∙ stated)

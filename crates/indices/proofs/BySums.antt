-- What the figures are, from the sums that code adds up and the quotients of them.
use Prim.Native.Nat.{ℕ}
use mathlib.Core.Path.{◌≡◌}
use mathlib.Core.List.{List}
use Rattle.study.specs.declared.Load.{Load}
use Rattle.units.specs.declared.bounds.Enclosure.{Enclosure}
use Rattle.answers.specs.declared.figures.Caidi.{Caidi}
use Rattle.answers.specs.declared.figures.Figures.{Figures}
use Rattle.indices.specs.declared.sums.Sums.{Sums}
use Rattle.indices.specs.Figures.{quotients, caidi, figures_of}
use Rattle.indices.specs.Sums.{SumsOf}

module _ {lower upper : List ℕ} {loads : List Load} {low high : Sums} (lows : SumsOf lower loads low) (highs : SumsOf upper loads high) where
  pub figures-by-sums : {saifi saidi maifi : Enclosure} {c : Caidi} (customers : ℕ)
      → c ≡ caidi low.loss high.loss low.minutes high.minutes
      → saifi ≡ quotients low.loss customers high.loss customers
      → saidi ≡ quotients low.minutes customers high.minutes customers
      → maifi ≡ quotients low.momentary customers high.momentary customers
      → ◌≡◌ {A = Figures} (record { saifi = saifi; saidi = saidi; caidi = c; maifi = maifi }) (figures_of customers lower upper loads)
  unfolding figures_of
  figures-by-sums customers is-caidi is-saifi is-saidi is-maifi =
      cc (lows.loss.is, lows.minutes.is, lows.momentary.is, highs.loss.is, highs.minutes.is, highs.momentary.is)

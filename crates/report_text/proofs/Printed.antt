-- The figures of loads within their limits have at most twenty digits. What carries it: the sums that they divide fit 64 bits.
use Prim.Native.Nat.{ℕ, ◌+◌, ◌-◌, ◌^◌, ◌<◌, ◌≤◌}
use mathlib.Core.Bool.{Bool, true, false, cond}
use mathlib.Core.List.{List}
use native.Mathlib.Nat.{div-le_self}
use native.Mathlib.Omega.{arith}
use lib.Dec.{eqb}
use lib.ListN.{length}
use Rattle.units.specs.Rounding.{quotient_down, quotient_up}
use Rattle.study.specs.declared.Load.{Load}
use Rattle.answers.specs.declared.figures.Caidi.TheVariants.{Bounds, NotStated}
use Rattle.model.specs.Good.{Sizes}
use Rattle.indices.specs.Figures.{customers_sum, loss_sum, minutes_sum, bound_of, quotients, per_customer, caidi, per_interruption, figures_of}
use Rattle.indices.specs.Losses.{AtMostOne, LossBounds}
use Rattle.indices.specs.Parts.{short, sustained}
use Rattle.indices.proofs.Most.{customers-few, loss-few, minutes-few}
use Rattle.indices.proofs.Ordering.{lower-most}
use Rattle.report_lines.proofs.Widths.{Printable, CaidiPrintable, figures-short}
use Rattle.report_lines.specs.Figures.{all_figures}

quotients-printable : (low divisor high other : ℕ) → low < 10 ^ 20 → high + other < 10 ^ 20 → Printable (quotients low divisor high other)
unfolding quotient_down quotient_up
quotients-printable low divisor high other small large =
    (omega (arith, div-le_self low divisor, small), omega (arith, div-le_self (high + (other - 1)) other, large))

-- from sums of the loads that take part in it
stated-printable : (loss_low loss_high minutes_low minutes_high : ℕ) → minutes_low < 10 ^ 20 → minutes_high + loss_low < 10 ^ 20
    → CaidiPrintable (caidi loss_low loss_high minutes_low minutes_high)
unfolding caidi
stated-printable loss_low loss_high minutes_low minutes_high small large = go (eqb loss_low 0)
  where
    go : (b : Bool) → CaidiPrintable (cond b NotStated (Bounds (quotients minutes_low loss_high minutes_high loss_low)))
    go true = tt
    go false = quotients-printable minutes_low loss_high minutes_high loss_low small large

module _ (loads : List Load) (sizes : Sizes loads) (lower upper : List ℕ) (bounds : LossBounds lower upper (length loads)) where
  low : AtMostOne lower (length loads)
  low = lower-most bounds

  -- SAIFI and MAIFI, over the loads that take part in them
  loss-printable : (takes_part : Load → Bool) → Printable (per_customer (customers_sum loads) (loss_sum takes_part) lower upper loads)
  loss-printable takes_part =
      quotients-printable _ _ _ _ (omega (arith, loss-few takes_part loads low sizes))
      (omega (arith, loss-few takes_part loads bounds.uppers sizes, customers-few loads sizes))

  saidi-printable : Printable (per_customer (customers_sum loads) (minutes_sum sustained) lower upper loads)
  saidi-printable =
      quotients-printable _ _ _ _ (omega (arith, minutes-few sustained loads low sizes))
      (omega (arith, minutes-few sustained loads bounds.uppers sizes, customers-few loads sizes))

  caidi-printable : CaidiPrintable (per_interruption sustained lower upper loads)
  caidi-printable =
      stated-printable (loss_sum sustained (bound_of lower) loads) (loss_sum sustained (bound_of upper) loads) (minutes_sum sustained (bound_of lower) loads)
      (minutes_sum sustained (bound_of upper) loads) (omega (arith, minutes-few sustained loads low sizes))
      (omega (arith, minutes-few sustained loads bounds.uppers sizes, loss-few sustained loads low sizes))

  pub model-figures-short : length (all_figures (figures_of (customers_sum loads) lower upper loads)) ≤ 192
  unfolding figures_of
  model-figures-short =
      figures-short (figures_of (customers_sum loads) lower upper loads) (loss-printable sustained) saidi-printable caidi-printable (loss-printable short)

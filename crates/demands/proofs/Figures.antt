-- The figures enclose the quotients of the published formulas. What carries it: the bounds of each load enclose its exact probability, and the
-- figures do so for any bounds that do; a call answers figures only of a sound study, whose model is good, and only where there are customers.
use mathlib.Core.Path.{refl, subst}
use native.Mathlib.Nat.{one-le-pow}
use native.Mathlib.Omega.{arith}
use lib.ListN.{length}
use borrow.Author.Tests.{le-leb, lt-leb}
use Rattle.units.specs.One.{one}
use Rattle.model.specs.Good.{Good}
use Rattle.model.specs.Model.{Model, components}
use Rattle.accuracy.specs.Accuracy.{whole_of}
use Rattle.indices.specs.Enclosed.{LossesEnclosed}
use Rattle.indices.specs.Figures.{customers_lost, loss_sum}
use Rattle.indices.specs.Parts.{short}
use Rattle.indices.proofs.Enclosed.{saifi_encloses, saidi_encloses, caidi_encloses, maifi_encloses}
use Rattle.indices.proofs.Parted.{sums-parted}
use Rattle.rules.proofs.Kept.{both-kept}
use Rattle.rules.proofs.Rows.{customers-kept}
use Rattle.answers.specs.Told.{figure_values}
use Rattle.answers.proofs.Told.{figures-told}
use Rattle.meaning.specs.Meaning.{meaning_fault, model_of}
use Rattle.meaning.proofs.Tables.{meant-good}
use Rattle.evaluation.specs.Bounds.{load_lowers, load_uppers}
use Rattle.evaluation.specs.Figures.{model_figures}
use Rattle.evaluation.proofs.LossOrder.{lower-at, upper-at}
use Rattle.loss_calls.specs.Figures.{customers_of, figures_fault}
use Rattle.demands.specs.Calls.{figures as for_figures}
use Rattle.demands.specs.Demand2.{FiguresAnswered}
use Rattle.demands.specs.Within.{exact_lost, FiguresEnclose, ShortByMinutes, LossesParted, ModelFiguresEnclose}
use Rattle.demands.proofs.Bounds.{losses-within}
use Rattle.demands.proofs.Finished.{finished}

losses-enclosed : (m : Model) → Good m → LossesEnclosed (load_lowers m) (load_uppers m) (exact_lost m) (whole_of m) (length m.loads)
losses-enclosed m good =
    record {
      whole = one-le-pow (components m) one (omega arith);
      below = λ j h. rw (lower-at m j (omega (arith, good.loads.few))) (losses-within m good j).below;
      above = λ j h. rw (upper-at m j (omega (arith, good.loads.few))) (losses-within m good j).above;
    }

pub model-figures-enclose : ModelFiguresEnclose
model-figures-enclose m good customers =
    record {
      saifi_encloses = saifi_encloses _ m.loads (losses-enclosed m good) customers;
      saidi_encloses = saidi_encloses _ m.loads (losses-enclosed m good) customers;
      caidi_encloses = caidi_encloses _ m.loads (losses-enclosed m good);
      maifi_encloses = maifi_encloses _ m.loads (losses-enclosed m good) customers;
    }

pub short-by-minutes : ShortByMinutes
unfolding short
short-by-minutes = record { short_load = λ l h. le-leb l.minutes 5 h; other_load = λ l h. lt-leb l.minutes 5 h; none_stated = refl }

pub losses-parted : LossesParted
unfolding loss_sum
losses-parted p loads = sums-parted (customers_lost p) loads

pub figures-answered : FiguresAnswered
unfolding figures_fault model_of
figures-answered meaning t values told =
    let done = finished (for_figures meaning) t (figure_values values) told in
    let m = model_of meaning t in
    let same = figures-told (model_figures m) values done.are in
    let customers = customers-kept (customers_of t) (both-kept (meaning_fault meaning t) _ done.none_behind).right in
    subst (FiguresEnclose m) same (model-figures-enclose m (meant-good meaning t done.is_sound) customers)

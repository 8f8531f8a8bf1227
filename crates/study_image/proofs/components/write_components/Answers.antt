-- `study_image::components::write_components` meets its contract: the rows of the components gone by are written, each as long as a place.
use Rattle.std.proofs.Common.{ℕ, get_or, refl, arith}
use borrow.Author.Count.{below_more}
use Rattle.study.specs.Zero.{zero_component}
use Rattle.study_image.specs.Fits.{ComponentFits}
use Rattle.study_image.proofs.Writing.{placed_start, placed-more}
use Rattle.study_image.proofs.components.write_components.Goals as goal

pub loop-c-init : goal.loop-c-init
loop-c-init c =
    record { placed = placed_start (omega (arith, c.requires)); fits = λ i h. absurd (omega arith) }

pub loop-c-preserved : goal.loop-c-preserved
loop-c-preserved c =
    let before = c.loop-c.invariant in
    let next = c.write_component.ensures in
    record {
      placed = placed-more before.placed next.written refl (omega (arith, before.placed.size, next.written.behind));
      fits = below_more (λ (i : ℕ). ComponentFits (get_or c.args.component.now i zero_component)) _ before.fits next.fits;
    }

-- `study_image::loads::write_loads` meets its contract: the rows of the loads gone by are written, each as long as a place.
use Rattle.std.proofs.Common.{ℕ, get_or, refl, arith}
use borrow.Author.Count.{below_more}
use Rattle.study.specs.Zero.{zero_load}
use Rattle.study_image.specs.Fits.{LoadFits}
use Rattle.study_image.proofs.Writing.{placed_start, placed-more}
use Rattle.study_image.proofs.loads.write_loads.Goals as goal

pub loop-l-init : goal.loop-l-init
loop-l-init c =
    record { placed = placed_start (omega (arith, c.requires)); fits = λ i h. absurd (omega arith) }

pub loop-l-preserved : goal.loop-l-preserved
loop-l-preserved c =
    let before = c.loop-l.invariant in
    let next = c.write_load.ensures in
    record {
      placed = placed-more before.placed next.written refl (omega (arith, before.placed.size, next.written.behind));
      fits = below_more (λ (i : ℕ). LoadFits (get_or c.args.load.now i zero_load)) _ before.fits next.fits;
    }

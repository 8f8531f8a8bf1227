-- `study_image::gates::write_gates` meets its contract: the rows of the gates gone by are written, each as long as a place.
use Rattle.std.proofs.Common.{ℕ, get_or, arith}
use borrow.Author.Count.{below_more}
use Rattle.study.specs.Places.{no_gate}
use Rattle.study_image.specs.Fits.{GateFits}
use Rattle.study_image.proofs.Widths.{gate-long}
use Rattle.study_image.proofs.Writing.{placed_start, placed-more}
use Rattle.study_image.proofs.gates.write_gates.Goals as goal

pub loop-g-init : goal.loop-g-init
loop-g-init c =
    record { placed = placed_start (omega (arith, c.requires)); fits = λ i h. absurd (omega arith) }

pub loop-g-preserved : goal.loop-g-preserved
loop-g-preserved c =
    let before = c.loop-g.invariant in
    let next = c.write_gate.ensures in
    let wide = gate-long _ next.fits in
    record {
      placed = placed-more before.placed next.written wide (omega (arith, before.placed.size, next.written.behind, wide));
      fits = below_more (λ (i : ℕ). GateFits (get_or c.args.gate.now i no_gate)) _ before.fits next.fits;
    }

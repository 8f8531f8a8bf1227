-- `study_image::loads::write_loads` meets its contract: the rows of the loads gone by are written, each as long as a place.
use Rattle.std.proofs.Common.{ℕ, ◌<◌, get_or}
use Rattle.study.specs.Zero.{zero_load}
use Rattle.study_image.specs.Fits.{LoadFits}
use Rattle.study_image.specs.Image.{load_row}
use Rattle.study_image.specs.Places.{load_bytes}
use Rattle.study_image.proofs.Writing.{Placed}
use Rattle.study_image.proofs.loads.write_loads.Given as goal

abbrev pub invariant-loop-l : goal.invariant-loop-l
invariant-loop-l l =
    record {
      placed : Placed (λ (i : ℕ). load_row (get_or l.load i zero_load)) load_bytes l.initial.image l.l-index l.image;
      fits : (i : ℕ) → i < l.l-index → LoadFits (get_or l.load i zero_load);
    }

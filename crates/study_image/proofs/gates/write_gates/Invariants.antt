-- `study_image::gates::write_gates` meets its contract: the rows of the gates gone by are written, each as long as a place.
use Rattle.std.proofs.Common.{ℕ, ◌<◌, get_or}
use Rattle.study.specs.Places.{no_gate}
use Rattle.study_image.specs.Fits.{GateFits}
use Rattle.study_image.specs.Image.{gate_row}
use Rattle.study_image.specs.Places.{gate_bytes}
use Rattle.study_image.proofs.Writing.{Placed}
use Rattle.study_image.proofs.gates.write_gates.Given as goal

abbrev pub invariant-loop-g : goal.invariant-loop-g
invariant-loop-g l =
    record {
      placed : Placed (λ (i : ℕ). gate_row (get_or l.gate i no_gate)) gate_bytes l.initial.image l.g-index l.image;
      fits : (i : ℕ) → i < l.g-index → GateFits (get_or l.gate i no_gate);
    }

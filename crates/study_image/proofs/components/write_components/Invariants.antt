-- `study_image::components::write_components` meets its contract: the rows of the components gone by are written, each as long as a place.
use Rattle.std.proofs.Common.{ℕ, ◌<◌, get_or}
use Rattle.study.specs.Zero.{zero_component}
use Rattle.study_image.specs.Fits.{ComponentFits}
use Rattle.study_image.specs.Image.{component_row}
use Rattle.study_image.specs.Places.{component_bytes}
use Rattle.study_image.proofs.Writing.{Placed}
use Rattle.study_image.proofs.components.write_components.Given as goal

abbrev pub invariant-loop-c : goal.invariant-loop-c
invariant-loop-c l =
    record {
      placed : Placed (λ (i : ℕ). component_row (get_or l.component i zero_component)) component_bytes l.initial.image l.c-index l.image;
      fits : (i : ℕ) → i < l.c-index → ComponentFits (get_or l.component i zero_component);
    }

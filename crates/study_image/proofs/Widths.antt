-- The rows of an image have their widths, and so has the image.
use Prim.Native.Nat.{ℕ, ◌*◌, ◌<◌}
use mathlib.Core.Path.{◌≡◌, refl, ap, ◌∙◌}
use mathlib.Core.List.{List, []}
use native.Mathlib.Omega.{arith}
use lib.ListN.{length, get_or, length-append}
use Rattle.lists.specs.Rows.{joined}
use Rattle.lists.specs.Tabulate.{tabulate}
use Rattle.lists.proofs.Joined.{joined-long}
use Rattle.lists.proofs.Tabulated.{length-tabulate, get_or-tabulate}
use Rattle.rules.specs.Limits.{most_components, most_gates, most_loads}
use Rattle.study.specs.declared.Gate.{Gate}
use Rattle.study.specs.declared.Study.{Study}
use Rattle.study_image.specs.Places.{component_bytes, gate_bytes, load_bytes, image_bytes}
use Rattle.study_image.specs.Image.{component_rows, gate_row, gate_rows, load_rows, image_of}
use Rattle.study_image.specs.Fits.{GateFits, StudyFits}

pub gate-long : (g : Gate) → GateFits g → length (gate_row g) ≡ gate_bytes
unfolding gate_row joined
gate-long g fits = simp length-append (omega (arith, fits.component, fits.mask, fits.input))

-- n rows of one width
rows_long : (row : ℕ → List ℕ) (width n : ℕ) → ((k : ℕ) → k < n → length (row k) ≡ width) → length (joined (tabulate row n)) ≡ n * width
rows_long row width n wide = joined-long width (tabulate row n) each ∙ ap (λ (m : ℕ). m * width) (length-tabulate row n)
  where
    each : (k : ℕ) → k < length (tabulate row n) → length (get_or (tabulate row n) k []) ≡ width
    each k h =
        let less = rw (length-tabulate row n) at h in
        rw (get_or-tabulate row n k [] less) (wide k less)

module _ (t : Study) (fits : StudyFits t) where
  pub components-long : length (component_rows t.component) ≡ most_components * component_bytes
  components-long = rows_long _ component_bytes most_components (λ k h. refl)

  pub gates-long : length (gate_rows t.gate) ≡ most_gates * gate_bytes
  gates-long = rows_long _ gate_bytes most_gates (λ k h. gate-long _ (fits.gate k h))

  pub loads-long : length (load_rows t.load) ≡ most_loads * load_bytes
  loads-long = rows_long _ load_bytes most_loads (λ k h. refl)

  pub image-long : length (image_of t) ≡ image_bytes
  unfolding image_of joined
  image-long = simp length-append (omega (arith, components-long, gates-long, loads-long))

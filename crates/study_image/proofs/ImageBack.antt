-- The image of a study holds that study, whatever stood in the slice and stands behind the image: `image-back`.
use Prim.Native.Nat.{ℕ, ◌+◌, ◌≤◌}
use mathlib.Core.Path.{◌≡◌, refl}
use mathlib.Core.List.{List, [], ◌∷◌}
use native.Mathlib.Omega.{arith}
use lib.ListN.{length, drop, length-append}
use borrow.Author.Tests.{le-ltb}
use Rattle.lists.specs.Rows.{put, joined}
use Rattle.lists.proofs.Puts.{put-size}
use Rattle.rules.specs.Limits.{most_components, most_gates, most_loads, most_tests, most_gate_inputs}
use Rattle.study.specs.declared.Component.{Component}
use Rattle.study.specs.declared.Gate.{Gate}
use Rattle.study.specs.declared.Load.{Load}
use Rattle.study.specs.declared.Study.{Study}
use Rattle.study.specs.Zero.{zero_component, zero_load}
use Rattle.study.specs.Places.{no_gate}
use Rattle.study_image.specs.Places.{p1_at, p2_at, p3_at, component_bytes, component_place}
use Rattle.study_image.specs.Places.{test_count_at, test_components_at, test_masks_at, input_count_at, inputs_at, gate_bytes, gate_place}
use Rattle.study_image.specs.Places.{customers_at, minutes_at, load_bytes, load_place}
use Rattle.study_image.specs.Places.{components_at, gates_at, loads_at, image_bytes}
use Rattle.study_image.specs.Image.{bytes_of, byte_of, component_row, gate_fields, gate_row, load_row, study_fields, image_of}
use Rattle.study_image.specs.Image.{component_in, gate_in, load_in, study_in}
use Rattle.study_image.specs.Fits.{ComponentFits, GateFits, LoadFits, StudyFits}
use Rattle.study_image.proofs.Standing.{Stands, stands-behind, stands-inside, stands-byte, stands-first, stands-bytes, stands-number, records-back}
use Rattle.study_image.proofs.Widths.{gate-long, components-long, gates-long, image-long}

module _ {image : List ℕ} {fields : List (List ℕ)} where
  component-back : (i : ℕ) (c : Component) → ComponentFits c → Stands image (component_place i) (component_row c ∷ fields) → component_in image i ≡ c
  unfolding joined
  component-back i c fits s =
      let inner : Stands image (component_place i) (byte_of c.states ∷ bytes_of c.p1 ∷ bytes_of c.p2 ∷ bytes_of c.p3 ∷ []) = stands-inside s in
      let states = stands-first inner (omega arith) in
      let p1 = stands-number (stands-behind inner 1 p1_at refl) fits.p1 in
      let p2 = stands-number (stands-behind inner 2 p2_at refl) fits.p2 in
      let p3 = stands-number (stands-behind inner 3 p3_at refl) fits.p3 in
      λ k. record { states = states k; p1 = p1 k; p2 = p2 k; p3 = p3 k }

  load-back : (j : ℕ) (l : Load) → LoadFits l → Stands image (load_place j) (load_row l ∷ fields) → load_in image j ≡ l
  unfolding joined
  load-back j l fits s =
      let inner : Stands image (load_place j) (byte_of l.gate ∷ bytes_of l.customers ∷ bytes_of l.minutes ∷ []) = stands-inside s in
      let gate = stands-first inner (omega arith) in
      let customers = stands-number (stands-behind inner 1 customers_at refl) fits.customers in
      let minutes = stands-number (stands-behind inner 2 minutes_at refl) fits.minutes in
      λ k. record { gate = gate k; customers = customers k; minutes = minutes k }

  gate-back : (i : ℕ) (g : Gate) → GateFits g → Stands image (gate_place i) (gate_row g ∷ fields) → gate_in image i ≡ g
  unfolding gate_row joined
  gate-back i g fits s =
      let inner : Stands image (gate_place i) (gate_fields g) = stands-inside s in
      let masks = stands-behind inner 2 test_masks_at (simp length-append (omega (arith, fits.component))) in
      let count = stands-behind inner 3 input_count_at (simp length-append (omega (arith, fits.component, fits.mask))) in
      let inputs = stands-behind inner 4 inputs_at (simp length-append (omega (arith, fits.component, fits.mask))) in
      let component = stands-bytes (stands-behind inner 1 test_components_at refl) most_tests fits.component in
      let mask = stands-bytes masks most_tests fits.mask in
      let input = stands-bytes inputs most_gate_inputs fits.input in
      λ k. record {
        threshold = stands-first inner (omega arith) k;
        tests = stands-byte inner test_count_at (omega arith) k;
        component = component k;
        mask = mask k;
        gates = stands-first count (omega arith) k;
        input = input k;
      }

module _ (t : Study) (old : List ℕ) where
  abbrev image : List ℕ
  image = put old 0 (image_of t)

  stands : Stands image 0 (study_fields t)
  unfolding put image_of
  stands = record { rest = drop (0 + length (image_of t)) old; there = refl }

  module _ (fits : StudyFits t) where
    pub image-back : image_bytes ≤ length old → study_in image ≡ t
    unfolding study_in joined
    image-back room =
        let size : length image ≡ length old = put-size old image 0 (image_of t) (omega (arith, image-long t fits)) refl in
        let whole : image_bytes ≤ length image = omega (arith, size) in
        let components = stands-inside (stands-behind stands 1 components_at refl) in
        let gates = stands-inside (stands-behind stands 2 gates_at (simp length-append (omega (arith, components-long t fits)))) in
        let loads = stands-inside (stands-behind stands 3 loads_at (simp length-append (omega (arith, components-long t fits, gates-long t fits)))) in
        let component =
        records-back _ component_bytes most_components (λ i h. refl) components (component_in image) t.component zero_component fits.components
        (λ i h. component-back i _ (fits.component i h)) in
        let gate =
        records-back _ gate_bytes most_gates (λ i h. gate-long _ (fits.gate i h)) gates (gate_in image) t.gate no_gate fits.gates
        (λ i h. gate-back i _ (fits.gate i h)) in
        let load =
        records-back _ load_bytes most_loads (λ j h. refl) loads (load_in image) t.load zero_load fits.loads
        (λ j h. load-back j _ (fits.load j h)) in
        rw (le-ltb (length image) image_bytes whole)
        (λ k. record {
          components = stands-byte stands 0 (omega arith) k;
          gates = stands-byte stands 1 (omega arith) k;
          loads = stands-byte stands 2 (omega arith) k;
          component = component k;
          gate = gate k;
          load = load k;
        })

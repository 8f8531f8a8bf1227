-- The bytes of a sound study are read as that study. What carries it: the records of each kind fill their places from the front, those behind are unused in
-- the study as in the arrays that reading begins with, and no first few components have more joint states than all.
use Prim.Native.Nat.{ℕ, suc, ◌*◌, ◌<◌, ◌≤◌}
use mathlib.Core.Path.{◌≡◌, sym, ap, subst, ◌∙◌}
use mathlib.Core.List.{List, [], ◌∷◌, map}
use native.Mathlib.Nat.{le_trans}
use native.Mathlib.Omega.{arith}
use lib.ListN.{length, get_or, take, get_or-replicate}
use lib.Seq.{take-suc, take-take}
use Rattle.lists.specs.Product.{product}
use Rattle.lists.specs.Rows.{joined}
use Rattle.lists.specs.Tabulate.{tabulate}
use Rattle.lists.proofs.Elements.{Every}
use Rattle.lists.proofs.Maps.{take-map}
use Rattle.lists.proofs.Products.{product-snoc, front-product}
use Rattle.rules.specs.Limits.{most_components, most_gates, most_loads, most_joint_states}
use Rattle.rules.specs.Table.{count_fault, width_fault}
use Rattle.rules.proofs.Rows.{width-none}
use Rattle.study.specs.declared.Component.{Component}
use Rattle.study.specs.declared.Study.{Study}
use Rattle.study.specs.Joint.{states, state_counts}
use Rattle.study.specs.Places.{Shaped, no_gate, component_at, gate_at, load_at}
use Rattle.study.specs.Zero.{zero_component, zero_gate, zero_load, no_components, no_gates, no_loads}
use Rattle.study_bytes.specs.Written.{component_bytes, gate_bytes, load_bytes, components_bytes, gates_bytes, loads_bytes, study_bytes}
use Rattle.reading.specs.Reader.{Reader, repeat}
use Rattle.reading.proofs.Back.{Back, back-then, back-judged, back-finished, back-byte, back-pieces}
use Rattle.soundness.specs.Sound.{Sound}
use Rattle.soundness.proofs.Ranges.{components-most, gates-most, loads-most, joint-most, counts-long, count_at, count-least}
use Rattle.opening.specs.Opening.{count, component_after, component_record, gate_record, load_record, placing, records, study}
use Rattle.round_trip.specs.Laws.{ReadBack}
use Rattle.round_trip.proofs.Places.{filled_to, filled-front, filled_next, filled-all}
use Rattle.round_trip.proofs.Back.Component.{component-back}
use Rattle.round_trip.proofs.Back.Gate.{gate-back, unused-gate}
use Rattle.round_trip.proofs.Back.Load.{load-back}

-- Records of one kind, each of which is read back into its place, one behind the other; those behind the last are as they were before.
module _ {A : Type 0} (d : A) (reader : ℕ → List A → Reader A) (bytes : A → List ℕ) (l before : List A) (long : length l ≡ length before) where
  places-back : (n : ℕ) → n ≤ length l → ((k : ℕ) → n ≤ k → k < length l → get_or l k d ≡ get_or before k d)
      → ((k : ℕ) → k < n → Back (reader k (filled_to l before k)) (bytes (get_or l k d)) (get_or l k d))
      → Back (repeat (placing reader) n before) (joined (tabulate (λ (k : ℕ). bytes (get_or l k d)) n)) l
  unfolding filled_to
  places-back n room same read =
      subst (Back _ _) (filled-all l before d long n same)
      (back-pieces (placing reader) (filled_to l before) (λ (k : ℕ). bytes (get_or l k d)) n
      (λ k less. subst (Back _ _) (filled_next l before d long k (omega arith)) (back-finished _ (read k less))))

count-back : (most n : ℕ) → count_fault most n ≡ 0 → Back (count most) (n ∷ []) n
unfolding count
count-back most n kept = back-judged (count_fault most) (λ n. n) kept (back-byte n)

module _ (t : Study) (s : Sound t) (shaped : Shaped t) where
  -- ---- components

  abbrev components_to : ℕ → List Component
  components_to = filled_to t.component no_components

  -- the state counts of the components before i
  counts-so-far : (i : ℕ) → i ≤ t.components → take i (states (components_to i)) ≡ take i (state_counts t)
  counts-so-far i h =
      let f : Component → ℕ = λ c. c.states in
      take-map f i (components_to i)
      ∙ ap (map f) (filled-front t.component no_components i (omega (arith, shaped.components, components-most t s)))
      ∙ sym (take-map f i t.component)
      ∙ sym (take-take i t.components (states t.component) h)

  -- component i does not make them too wide
  fits : (i : ℕ) → i < t.components → product (take i (states (components_to i))) * (component_at t i).states ≤ most_joint_states
  fits i h =
      let counts = state_counts t in
      let long = counts-long t s shaped.components in
      let inside : i < length counts = rw long h in
      let next : product (take (suc i) counts) ≡ product (take i counts) * (component_at t i).states =
      ap product (take-suc counts i 0 inside)
      ∙ product-snoc (take i counts) (get_or counts i 0)
      ∙ ap (λ (n : ℕ). product (take i counts) * n) (count_at t s i h) in
      let some : Every (λ (n : ℕ). 1 ≤ n) 0 counts = λ k below. omega (arith, count-least t s k (rw long at below)) in
      rw (counts-so-far i (omega arith), sym next) (le_trans (front-product (suc i) counts some) (joint-most t s))

  component-read : (i : ℕ) → i < t.components → Back (component_record i (components_to i)) (component_bytes (component_at t i)) (component_at t i)
  unfolding component_record component_after
  component-read i h =
      back-judged (λ (c : Component). width_fault (product (take i (states (components_to i))) * c.states)) (λ c. c) (width-none _ (fits i h))
      (component-back (component_at t i) (s.component i h))

  components-back : Back (repeat (placing component_record) t.components no_components) (components_bytes t) t.component
  unfolding no_components
  components-back =
      places-back zero_component component_record component_bytes t.component no_components shaped.components t.components
      (omega (arith, shaped.components, components-most t s))
      (λ k from h.
      let inside : k < most_components = rw shaped.components at h in
      s.no_component k from inside ∙ sym (get_or-replicate most_components k zero_component zero_component inside)) component-read

  -- ---- gates

  gates-back : Back (repeat (placing (gate_record (state_counts t))) t.gates no_gates) (gates_bytes t) t.gate
  unfolding no_gates
  gates-back =
      places-back no_gate (gate_record (state_counts t)) gate_bytes t.gate no_gates shaped.gates t.gates (omega (arith, shaped.gates, gates-most t s))
      (λ k from h.
      let inside : k < most_gates = rw shaped.gates at h in
      unused-gate (gate_at t k) (s.no_gate_behind k from inside) (shaped.gate k inside) ∙ sym (get_or-replicate most_gates k zero_gate no_gate inside))
      (λ k less. gate-back (state_counts t) k (gate_at t k) (s.gate k less) (shaped.gate k (omega (arith, gates-most t s))))

  -- ---- loads

  loads-back : Back (repeat (placing (load_record t.gates)) t.loads no_loads) (loads_bytes t) t.load
  unfolding no_loads
  loads-back =
      places-back zero_load (load_record t.gates) load_bytes t.load no_loads shaped.loads t.loads (omega (arith, shaped.loads, loads-most t s))
      (λ k from h.
      let inside : k < most_loads = rw shaped.loads at h in
      s.no_load k from inside ∙ sym (get_or-replicate most_loads k zero_load zero_load inside))
      (λ k less. load-back t.gates (load_at t k) (s.load k less))

  -- ---- the study

  whole_back : Back study (study_bytes t) t
  unfolding study records study_bytes
  whole_back =
      back-then _ (count-back most_components t.components s.components)
      (back-then _ (count-back most_gates t.gates s.gates)
      (back-then _ (count-back most_loads t.loads s.loads)
      (back-then _ components-back (back-then _ gates-back (back-finished _ loads-back)))))

pub study-back : ReadBack
study-back t shaped s = (whole_back t s shaped).back

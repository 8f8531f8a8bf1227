-- A sound study takes at most 2,023 bytes: three counts, the components 84 (`Weighs`), gate 0 with its tests 27, each other gate 59, each load 10.
use Prim.Native.Nat.{ℕ, zero, suc, min, ◌+◌, ◌-◌, ◌*◌, ◌<◌, ◌≤◌}
use mathlib.Core.Path.{◌≡◌, ap, ◌∙◌}
use mathlib.Core.List.{List, ◌++◌}
use native.Mathlib.Nat.{le_refl, sub-zero}
use native.Mathlib.Decide.{dec_le}
use native.Mathlib.Omega.{arith}
use lib.ListN.{length, get_or, take, length-append, get_or-eq_default}
use lib.Seq.{take-suc, take_all}
use Rattle.lists.specs.Counting.{sum}
use Rattle.lists.specs.Product.{product}
use Rattle.lists.proofs.Joined.{joined-sum}
use Rattle.lists.proofs.Products.{product-snoc}
use Rattle.text.proofs.Short.{lines-short}
use Rattle.rules.specs.Limits.{most_loads, longest_study}
use Rattle.rules.proofs.Rows.{states-kept}
use Rattle.rules.proofs.Weights.{Weighs, weighs-none, weighs-more, weighs-few}
use Rattle.study.specs.declared.Study.{Study}
use Rattle.study.specs.Joint.{state_counts}
use Rattle.study.specs.Places.{component_at, gate_at, load_at}
use Rattle.soundness.specs.Sound.{Sound}
use Rattle.soundness.proofs.Ranges.{gates-most, loads-most, joint-most, counts-few, count_at, count-least}
use Rattle.study_bytes.specs.Written.{component_bytes, gate_bytes, load_bytes, components_bytes, gates_bytes, loads_bytes, study_bytes}
use Rattle.writing.proofs.Sizes.{component-size, load-size, gate-size}

-- a number above 0 stands inside its list
inside : (l : List ℕ) (k : ℕ) → 0 < get_or l k 0 → k < length l
inside l k some = go (dec_le (length l) k)
  where
    go : Dec (length l ≤ k) → k < length l
    go (yes past) = absurd (omega (arith, some, get_or-eq_default l 0 past))
    go (no less) = omega (arith, less)

module _ (t : Study) (s : Sound t) where
  abbrev size_of_component : ℕ → ℕ
  size_of_component k = length (component_bytes (component_at t k))

  -- one state count more
  joint-more : (k : ℕ) → k < t.components
      → product (take (suc k) (state_counts t)) ≡ product (take k (state_counts t)) * (component_at t k).states
  joint-more k h =
      let counts = state_counts t in
      ap product (take-suc counts k 0 (inside counts k (omega (arith, count-least t s k h))))
      ∙ product-snoc (take k counts) (get_or counts k 0)
      ∙ ap (λ (n : ℕ). product (take k counts) * n) (count_at t s k h)

  -- of n bytes the first k components take theirs
  components-weigh : (n k : ℕ) → k ≤ t.components → Weighs n (product (take k (state_counts t))) (n - sum size_of_component k)
  unfolding product sum
  components-weigh n zero h = rw (sub-zero n) (weighs-none n)
  components-weigh n (suc k) h =
      let c = component_at t k in
      let sound = s.component k h in
      let size : size_of_component k ≤ 4 * c.states - 2 = component-size c sound in
      rw (joint-more k h)
      (weighs-more c.states (n - sum size_of_component (suc k)) (components-weigh n k (omega arith)) (states-kept c.states sound.states)
      (omega (arith, size)))

  components-size : length (components_bytes t) ≤ 84
  components-size =
      let all = sum size_of_component t.components in
      let counts = take_all t.components (state_counts t) (counts-few t s) in
      let few = weighs-few (components-weigh all t.components (le_refl _)) (rw counts (joint-most t s)) in
      omega (arith, few, joined-sum (λ (k : ℕ). component_bytes (component_at t k)) t.components)

  gates-bytes : (n : ℕ) → n ≤ t.gates → sum (λ (k : ℕ). length (gate_bytes (gate_at t k))) n ≤ 27 * min n 1 + 59 * (n - 1)
  unfolding sum
  gates-bytes zero h = omega arith
  gates-bytes (suc n) h = omega (arith, gates-bytes n (omega arith), gate-size t s n h)

  gates-size : length (gates_bytes t) ≤ 27 + 31 * 59
  gates-size =
      omega (
        arith,
        joined-sum (λ (k : ℕ). gate_bytes (gate_at t k)) t.gates,
        gates-bytes t.gates (le_refl _),
        gates-most t s,
      )

  loads-size : length (loads_bytes t) ≤ most_loads * 10
  loads-size = omega (arith, lines-short (λ (k : ℕ). load_bytes (load_at t k)) t.loads 10 (λ k h. load-size (load_at t k)), loads-most t s)

  pub study-size : length (study_bytes t) ≤ longest_study
  unfolding study_bytes
  study-size =
      omega (
        arith,
        length-append (components_bytes t) (gates_bytes t ++ loads_bytes t),
        length-append (gates_bytes t) (loads_bytes t),
        components-size,
        gates-size,
        loads-size,
      )

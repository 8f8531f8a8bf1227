-- A sound study gives a good model. What carries the probabilities: state 0 has the rest of one, and a state that the component lacks has
-- probability 0.
use Prim.Native.Nat.{ℕ, zero, suc, ◌+◌, ◌<◌, ◌≤◌, min}
use mathlib.Core.Path.{◌≡◌, refl, sym, ap, subst, ◌∙◌}
use mathlib.Core.List.{List, []}
use native.Mathlib.Nat.{min-le_left}
use native.Mathlib.Omega.{arith}
use lib.ListN.{length, get_or, take, length-take, length-map}
use lib.Seq.{get_or-take}
use Rattle.lists.specs.Counting.{sum}
use Rattle.lists.proofs.Maps.{get_or-map-inside}
use Rattle.units.specs.One.{one}
use Rattle.rules.specs.Limits.{fewest_states, most_states, most_customers, most_minutes}
use Rattle.rules.proofs.Rows.{lacked-kept, size-kept}
use Rattle.study.specs.declared.Component.{Component}
use Rattle.study.specs.declared.Study.{Study}
use Rattle.study.specs.Joint.{states, state_counts}
use Rattle.study.specs.Places.{component_at, load_at}
use Rattle.study.specs.Zero.{zero_component, zero_load}
use Rattle.model.specs.Good.{Whole, Counted, StateProbabilities, Sizes, Good}
use Rattle.soundness.specs.Sound.{Sound, SoundComponent}
use Rattle.soundness.proofs.Ranges.{components-most, loads-most, joint-most, counts-few, count_at, count-least, count_most, probabilities-sum}
use Rattle.study_model.specs.Model.{state_probabilities, probabilities_of, model_with, model_by}

-- ---- one component

module _ (c : Component) (rules : SoundComponent c) (below : c.p1 + c.p2 + c.p3 ≤ one) where
  lacking : (s : ℕ) → fewest_states ≤ s → c.states ≤ s → get_or (state_probabilities c) s 0 ≡ 0
  lacking zero least lacks = absurd (omega arith)
  lacking (suc zero) least lacks = absurd (omega arith)
  lacking (suc (suc zero)) least lacks = lacked-kept c.states 2 c.p2 rules.state2 lacks
  lacking (suc (suc (suc zero))) least lacks = lacked-kept c.states 3 c.p3 rules.state3 lacks
  lacking (suc (suc (suc (suc s)))) least lacks = refl

  -- the probabilities of n states sum to one where it lacks the others
  sums : (n : ℕ) → c.states ≡ n → fewest_states ≤ n → n ≤ most_states → sum (λ (s : ℕ). get_or (state_probabilities c) s 0) n ≡ one
  unfolding sum
  sums zero e least most = absurd (omega arith)
  sums (suc zero) e least most = absurd (omega arith)
  sums (suc (suc zero)) e least most = omega (arith, lacking 2 (omega arith) (omega (arith, e)), lacking 3 (omega arith) (omega (arith, e)))
  sums (suc (suc (suc zero))) e least most = omega (arith, lacking 3 (omega arith) (omega (arith, e)))
  sums (suc (suc (suc (suc zero)))) e least most = omega arith
  sums (suc (suc (suc (suc (suc n))))) e least most = absurd (omega arith)

  whole : (n : ℕ) → c.states ≡ n → fewest_states ≤ n → n ≤ most_states → Whole n (state_probabilities c)
  whole n e least most = record { places = refl; sums = sums n e least most; lacking = λ s lacks. lacking s (omega arith) (omega (arith, e)) }

-- ---- the study

module _ (t : Study) (s : Sound t) where
  used : (k : ℕ) → k < length (state_counts t) → k < t.components
  used k h = omega (arith, counts-few t s)

  counted : Counted (state_counts t)
  counted =
      record {
        few = omega (arith, counts-few t s, components-most t s);
        least = λ k h. count-least t s k (used k h);
        most = λ k h. count_most t s k (used k h);
        joint = joint-most t s;
      }

  -- as many components as state counts
  abbrev in_use : List Component
  in_use = take t.components t.component

  rows_long : length in_use ≡ length (state_counts t)
  rows_long =
      length-take t.components t.component
      ∙ ap (min t.components) (sym (length-map t.component (λ (c : Component). c.states)))
      ∙ sym (length-take t.components (states t.component))

  probabilities : StateProbabilities (state_counts t) (probabilities_of t)
  probabilities =
      record {
        rows = length-map in_use state_probabilities ∙ rows_long;
        whole = λ k h. subst (Whole (get_or (state_counts t) k 0)) (sym (row k h)) (row-whole k (used k h));
      }
    where
      row : (k : ℕ) → k < length (state_counts t) → get_or (probabilities_of t) k [] ≡ state_probabilities (component_at t k)
      row k h =
          get_or-map-inside state_probabilities in_use k zero_component [] (omega (arith, h, rows_long))
          ∙ ap state_probabilities (get_or-take t.components t.component k zero_component (used k h))

      row-whole : (k : ℕ) → k < t.components → Whole (get_or (state_counts t) k 0) (state_probabilities (component_at t k))
      row-whole k h =
          whole (component_at t k) (s.component k h) (probabilities-sum t s k (omega (arith, components-most t s))) (get_or (state_counts t) k 0)
          (sym (count_at t s k h)) (count-least t s k h) (count_most t s k h)

  sizes : Sizes (take t.loads t.load)
  sizes =
      record {
        few = omega (arith, few, loads-most t s);
        customers = λ j h. rw (at j h) (size-kept most_customers (load_at t j).customers (s.load j (in_use j h)).customers);
        minutes = λ j h. rw (at j h) (size-kept most_minutes (load_at t j).minutes (s.load j (in_use j h)).minutes);
      }
    where
      few : length (take t.loads t.load) ≤ t.loads
      few = rw (length-take t.loads t.load) (min-le_left t.loads (length t.load))

      in_use : (j : ℕ) → j < length (take t.loads t.load) → j < t.loads
      in_use j h = omega (arith, h, few)

      at : (j : ℕ) → j < length (take t.loads t.load) → get_or (take t.loads t.load) j zero_load ≡ load_at t j
      at j h = get_or-take t.loads t.load j zero_load (in_use j h)

  -- whatever the classes of its joint states
  pub with-good : (class : List ℕ → ℕ) → Good (model_with t class)
  with-good class = record { counts = counted; probabilities = probabilities; loads = sizes }

  pub by-good : (classes : List ℕ) → Good (model_by t classes)
  unfolding model_by
  by-good classes = with-good _

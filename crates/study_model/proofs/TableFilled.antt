-- What carries the filling of the table of probabilities: those of the components below i are written.
use Prim.Native.Nat.{ℕ, ◌+◌, ◌*◌, ◌<◌, ◌≤◌}
use mathlib.Core.Path.{◌≡◌, refl, sym, ap, ◌∙◌}
use mathlib.Core.List.{List, [], ◌∷◌, ◌++◌, map}
use native.Mathlib.Numerals.{add-one}
use native.Mathlib.Omega.{arith}
use lib.ListN.{length, get_or, drop, drop_of_length-le}
use lib.Seq.{drop-cons}
use Rattle.lists.specs.Rows.{put, joined}
use Rattle.lists.proofs.Puts.{Due, due-start, due-room, due-more, due-done, put_whole}
use Rattle.rules.specs.Limits.{most_components, most_states}
use Rattle.study.specs.declared.Component.{Component}
use Rattle.study.specs.Zero.{zero_component}
use Rattle.study_model.specs.Model.{state_probabilities, place_probabilities}

-- the probabilities of the components from i on
abbrev from : List Component → ℕ → List ℕ
from component i = joined (map state_probabilities (drop i component))

pub table-long : (component : List Component) → length (place_probabilities component) ≡ length component * most_states
unfolding place_probabilities joined
table-long [] = refl
table-long (c ∷ cs) = omega (arith, table-long cs)

from_next : (component : List Component) (i : ℕ) → i < length component
    → from component i ≡ state_probabilities (get_or component i zero_component) ++ from component (i + 1)
unfolding joined
from_next component i h =
    ap (λ (l : List Component). joined (map state_probabilities l)) (drop-cons component i zero_component h)
    ∙ ap (λ (k : ℕ). state_probabilities (get_or component i zero_component) ++ from component k) (sym (add-one i))

pub record Filled (component : List Component) (d₀ : List ℕ) (i : ℕ) (table : List ℕ) : Type 0 where
  pub places : length component ≡ most_components
  pub whole : length d₀ ≡ most_components * most_states
  pub inside : i ≤ most_components
  pub due : Due d₀ 0 (place_probabilities component) table (i * most_states) (from component i)

module _ {component : List Component} {d₀ : List ℕ} where
  pub filled-start : length component ≡ most_components → length d₀ ≡ most_components * most_states → Filled component d₀ 0 d₀
  unfolding place_probabilities
  filled-start places whole =
      record { places = places; whole = whole; inside = omega arith; due = due-start (omega (arith, table-long component, places, whole)) }

  next : {i : ℕ} {table : List ℕ} → Filled component d₀ i table → i < most_components
      → Due d₀ 0 (place_probabilities component) table (i * most_states) (state_probabilities (get_or component i zero_component) ++ from component (i + 1))
  next {i} {table} c h = rw (from_next component i (omega (arith, c.places))) at c.due

  pub filled-room : {i : ℕ} {table : List ℕ} → Filled component d₀ i table → i < most_components → i * most_states + most_states ≤ length table
  filled-room {i} {table} c h = due-room (state_probabilities (get_or component i zero_component)) (from component (i + 1)) (next c h)

  pub filled_more : {i : ℕ} {table r : List ℕ} → Filled component d₀ i table → i < most_components
      → r ≡ put table (i * most_states) (state_probabilities (get_or component i zero_component)) → Filled component d₀ (i + 1) r
  filled_more {i} {table} {r} c h wrote =
      record {
        places = c.places;
        whole = c.whole;
        inside = omega arith;
        due = due-more (state_probabilities (get_or component i zero_component)) (from component (i + 1)) (next c h) wrote (omega arith);
      }

  pub filled-done : {i : ℕ} {table : List ℕ} → Filled component d₀ i table → most_components ≤ i → table ≡ place_probabilities component
  unfolding joined
  filled-done {i} {table} c h =
      let none = drop_of_length-le component {i = i} (omega (arith, c.places)) in
      let nothing : from component i ≡ [] = ap (λ (l : List Component). joined (map state_probabilities l)) none in
      due-done (rw nothing at c.due) ∙ put_whole d₀ (place_probabilities component) (omega (arith, table-long component, c.places, c.whole))

-- The arrays of a study hold its model in front. What carries the probabilities: rows of four, one behind the other, are cut apart where they were joined.
use Prim.Native.Nat.{ℕ, ◌*◌, ◌<◌, ◌≤◌}
use mathlib.Core.Path.{◌≡◌, refl, sym, ap, ◌∙◌}
use mathlib.Core.List.{List, [], map}
use native.Mathlib.Omega.{arith}
use lib.ListN.{length, get_or, take, length-map}
use lib.Seq.{length-take-le, get_or-take}
use Rattle.lists.specs.Rows.{row_at}
use Rattle.lists.specs.Tabulate.{tabulate}
use Rattle.lists.proofs.Elements.{Every, every_map}
use Rattle.lists.proofs.Maps.{take-map}
use Rattle.lists.proofs.Rows.{row-at}
use Rattle.lists.proofs.Tabulated.{tabulated}
use Rattle.rules.specs.Limits.{most_components, most_loads, most_states, most_joint_states}
use Rattle.study.specs.declared.Component.{Component}
use Rattle.study.specs.declared.Study.{Study}
use Rattle.study.specs.Joint.{states}
use Rattle.study.specs.Zero.{zero_component}
use Rattle.paths.specs.Blocks.{class_at}
use Rattle.model.specs.declared.HeldModel.{HeldModel}
use Rattle.model.specs.InHand.{model_held, HeldPlaces, InHand}
use Rattle.soundness.specs.Sound.{Sound}
use Rattle.soundness.proofs.Ranges.{components-most, loads-most}
use Rattle.study_model.specs.Holding.{Holds}
use Rattle.study_model.specs.Model.{state_probabilities, place_probabilities, model_by}
use Rattle.study_model.proofs.Good.{by-good}
use Rattle.study_model.proofs.TableFilled.{table-long}

rows_cut : (component : List Component) (n : ℕ) → n ≤ length component
    → tabulate (row_at most_states (place_probabilities component)) n ≡ map state_probabilities (take n component)
unfolding place_probabilities
rows_cut component n inside = sym (tabulated (row_at most_states (place_probabilities component)) n (map state_probabilities (take n component)) [] number row)
  where
    rows : List (List ℕ)
    rows = map state_probabilities component

    wide : Every (λ (row : List ℕ). length row ≡ most_states) [] (map state_probabilities component)
    wide = every_map state_probabilities zero_component [] (λ (row : List ℕ). length row ≡ most_states) component (λ k h. refl)

    number : length (map state_probabilities (take n component)) ≡ n
    number = length-map (take n component) state_probabilities ∙ length-take-le n component inside

    row : (k : ℕ) → k < n → get_or (map state_probabilities (take n component)) k [] ≡ row_at most_states (place_probabilities component) k
    row k h =
        ap (λ (l : List (List ℕ)). get_or l k []) (sym (take-map state_probabilities n component))
        ∙ get_or-take n (map state_probabilities component) k [] h
        ∙ sym (row-at most_states (map state_probabilities component) k wide (omega (arith, h, inside, length-map component state_probabilities)))

-- ---- as the code puts them together

module _ {t : Study} {counts table : List ℕ} (sound : Sound t) (twelve : length t.component ≡ most_components) (eight : length t.load ≡ most_loads)
    (is_counts : counts ≡ states t.component) (is-table : table ≡ place_probabilities t.component) where
  abbrev held : HeldModel
  held = record { components = t.components; counts = counts; probabilities = table; loads = t.loads; load = t.load }

  held-places : HeldPlaces held
  held-places =
      record {
        counts = ap length is_counts ∙ length-map t.component (λ (c : Component). c.states) ∙ twelve;
        probabilities = ap length is-table ∙ table-long t.component ∙ ap (λ (n : ℕ). n * most_states) twelve;
        load = eight;
        components = components-most t sound;
        loads = loads-most t sound;
      }

  held-is : (classes : List ℕ) → model_held held classes ≡ model_by t classes
  unfolding model_held model_by
  held-is classes =
      let inside : t.components ≤ length t.component = omega (arith, twelve, components-most t sound) in
      let rows =
      ap (λ (l : List ℕ). tabulate (row_at most_states l) t.components) is-table ∙ rows_cut t.component t.components inside in
      λ i.
      record {
        counts = take t.components (is_counts i);
        probabilities = rows i;
        class = class_at (take t.components (is_counts i)) classes;
        loads = take t.loads t.load;
      }

  pub study-held : Holds t held
  study-held = record { places = held-places; model = held-is }

-- ---- what is held is good

pub in-hand : {t : Study} {h : HeldModel} (classes : List ℕ) → Sound t → Holds t h → most_joint_states ≤ length classes → InHand h classes
in-hand {t} {h} classes sound holds room =
    record { places = holds.places; room = room; good = rw (holds.model classes) (by-good t sound classes) }

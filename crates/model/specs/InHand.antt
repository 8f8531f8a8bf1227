-- A model in hand: what the code holds of a model by value, beside a table that has the class of each joint state by
-- its number.
use Rattle.std.specs.Prelude.{ℕ, ◌*◌, ◌≤◌, ◌≡◌, List, length, take}
use Rattle.lists.specs.Rows.{row_at}
use Rattle.lists.specs.Tabulate.{tabulate}
use Rattle.rules.specs.Limits.{most_components, most_loads, most_states, most_joint_states}
use Rattle.paths.specs.Blocks.{class_at}
use Rattle.model.specs.declared.HeldModel.{HeldModel}
use Rattle.model.specs.Good.{Good}
use Rattle.model.specs.Model.{Model}

-- the state counts of its components
abbrev pub held_counts : HeldModel → List ℕ
held_counts h = take h.components h.counts

-- their probabilities, one component behind the other
abbrev pub held_table : HeldModel → List ℕ
held_table h = take (h.components * most_states) h.probabilities

-- the model that it makes with the table
unfoldable pub model_held : HeldModel → List ℕ → Model
unfolding tabulate
model_held h classes =
    record {
      counts = held_counts h;
      probabilities = tabulate (row_at most_states h.probabilities) h.components;
      class = class_at (held_counts h) classes;
      loads = take h.loads h.load;
    }

-- its arrays have room for any model, and no more of them is in use
pub record HeldPlaces (h : HeldModel) : Type 0 where
  pub counts : length h.counts ≡ most_components
  pub probabilities : length h.probabilities ≡ most_components * most_states
  pub load : length h.load ≡ most_loads
  pub components : h.components ≤ most_components
  pub loads : h.loads ≤ most_loads

-- what everything behind the class table may rely on: a good model, and a table with room for the classes of any
pub record InHand (h : HeldModel) (classes : List ℕ) : Type 0 where
  pub places : HeldPlaces h
  pub room : most_joint_states ≤ length classes
  pub good : Good (model_held h classes)

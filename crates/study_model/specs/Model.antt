-- A study as a model, once the class of each joint state is given.
use Rattle.std.specs.Prelude.{ℕ, ◌+◌, ◌-◌, List, [], ◌∷◌, map, take}
use Rattle.lists.specs.Rows.{joined}
use Rattle.units.specs.One.{one}
use Rattle.study.specs.declared.Component.{Component}
use Rattle.study.specs.declared.Study.{Study}
use Rattle.study.specs.Joint.{state_counts}
use Rattle.paths.specs.Blocks.{class_at}
use Rattle.model.specs.Model.{Model}

-- the probabilities of a component's states 0 to 3; state 0, "up", has the rest of one
abbrev pub state_probabilities : Component → List ℕ
state_probabilities c = (one - (c.p1 + c.p2 + c.p3)) ∷ c.p1 ∷ c.p2 ∷ c.p3 ∷ []

-- those of all component places, one behind the other
unfoldable pub place_probabilities : List Component → List ℕ
unfolding joined
place_probabilities component = joined (map state_probabilities component)

-- those of its components in use, a row each
abbrev pub probabilities_of : Study → List (List ℕ)
probabilities_of t = map state_probabilities (take t.components t.component)

-- its components and loads in use
abbrev pub model_with : Study → (List ℕ → ℕ) → Model
model_with t class =
    record {
      counts = state_counts t;
      probabilities = probabilities_of t;
      class = class;
      loads = take t.loads t.load;
    }

-- where a table has the class of each joint state by its number, wherever it comes from
unfoldable pub model_by : Study → List ℕ → Model
model_by t classes = model_with t (class_at (state_counts t) classes)

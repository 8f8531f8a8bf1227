-- State counts and the number of joint states.
use Rattle.std.specs.Prelude.{ℕ, List, map, take}
use Rattle.study.specs.declared.Component.{Component}
use Rattle.study.specs.declared.Study.{Study}

-- the state count at each component place
abbrev pub states : List Component → List ℕ
states component = map (λ (c : Component). c.states) component

-- the state counts of a study's components
abbrev pub state_counts : Study → List ℕ
state_counts t = take t.components (states t.component)

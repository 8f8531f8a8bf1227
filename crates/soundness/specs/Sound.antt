-- A sound study: every rule of the format is kept, the inputs of each gate stand in order, and every place that no record uses holds 0. The rules are the
-- rows of the refusal table by which opening refuses. A study that is not sound is refused with 16.
use Rattle.std.specs.Prelude.{ℕ, ◌<◌, ◌≤◌, ◌≡◌, List, length, get_or}
use Rattle.lists.specs.Product.{product}
use Rattle.rules.specs.Limits.{most_components, most_gates, most_loads, most_tests, most_gate_inputs, most_customers, most_minutes}
use Rattle.rules.specs.Table.{count_fault, states_fault, lacked_state_fault, sum_fault, width_fault, input_count_fault, no_component_fault, mask_fault}
use Rattle.rules.specs.Table.{ahead_fault, threshold_fault, loss_gate_fault, size_fault}
use Rattle.study.specs.declared.Component.{Component}
use Rattle.study.specs.declared.Gate.{Gate}
use Rattle.study.specs.declared.Load.{Load}
use Rattle.study.specs.declared.Study.{Study}
use Rattle.gate_order.specs.Inputs.{input_count}
use Rattle.study.specs.Joint.{state_counts}
use Rattle.study.specs.Places.{component_at, gate_at, load_at}
use Rattle.study.specs.Zero.{zero_component, zero_load}
use Rattle.gate_order.specs.Order.{InOrder}

pub record SoundComponent (c : Component) : Type 0 where
  pub states : states_fault c.states ≡ 0
  -- a state that the component lacks has probability 0
  pub state1 : lacked_state_fault c.states 1 c.p1 ≡ 0
  pub state2 : lacked_state_fault c.states 2 c.p2 ≡ 0
  pub state3 : lacked_state_fault c.states 3 c.p3 ≡ 0
  pub sum : sum_fault c.p1 c.p2 c.p3 ≡ 0

-- the places of a gate behind its counts hold 0
pub record ZeroBehind (g : Gate) : Type 0 where
  pub component : (j : ℕ) → g.tests ≤ j → j < most_tests → get_or g.component j 0 ≡ 0
  pub mask : (j : ℕ) → g.tests ≤ j → j < most_tests → get_or g.mask j 0 ≡ 0
  pub input : (j : ℕ) → g.gates ≤ j → j < most_gate_inputs → get_or g.input j 0 ≡ 0

-- gate i of a study whose components have these state counts
pub record SoundGate (counts : List ℕ) (i : ℕ) (g : Gate) : Type 0 where
  -- a gate may have no tests, or no gate inputs; its threshold says that it has some input
  pub tests : input_count_fault most_tests g.tests ≡ 0
  pub gates : input_count_fault most_gate_inputs g.gates ≡ 0
  pub component : (j : ℕ) → j < g.tests → no_component_fault (length counts) (get_or g.component j 0) ≡ 0
  pub mask : (j : ℕ) → j < g.tests → mask_fault (get_or counts (get_or g.component j 0) 0) (get_or g.mask j 0) ≡ 0
  pub input : (j : ℕ) → j < g.gates → ahead_fault i (get_or g.input j 0) ≡ 0
  pub threshold : threshold_fault (input_count g) g.threshold ≡ 0
  pub behind : ZeroBehind g

pub record UnusedGate (g : Gate) : Type 0 where
  pub threshold : g.threshold ≡ 0
  pub tests : g.tests ≡ 0
  pub gates : g.gates ≡ 0
  pub behind : ZeroBehind g

-- a load of a study with so many gates
pub record SoundLoad (gates : ℕ) (l : Load) : Type 0 where
  -- it is never lost, or its loss gate is in the study
  pub gate : loss_gate_fault gates l.gate ≡ 0
  pub customers : size_fault most_customers l.customers ≡ 0
  pub minutes : size_fault most_minutes l.minutes ≡ 0

pub record Sound (t : Study) : Type 0 where
  pub components : count_fault most_components t.components ≡ 0
  pub gates : count_fault most_gates t.gates ≡ 0
  pub loads : count_fault most_loads t.loads ≡ 0
  pub component : (i : ℕ) → i < t.components → SoundComponent (component_at t i)
  pub no_component : (i : ℕ) → t.components ≤ i → i < most_components → component_at t i ≡ zero_component
  pub width : width_fault (product (state_counts t)) ≡ 0
  pub gate : (i : ℕ) → i < t.gates → SoundGate (state_counts t) i (gate_at t i)
  -- tests by component, then by mask, and gate inputs by number
  pub order : (i : ℕ) → i < t.gates → InOrder (gate_at t i)
  pub no_gate_behind : (i : ℕ) → t.gates ≤ i → i < most_gates → UnusedGate (gate_at t i)
  pub load : (j : ℕ) → j < t.loads → SoundLoad t.gates (load_at t j)
  pub no_load : (j : ℕ) → t.loads ≤ j → j < most_loads → load_at t j ≡ zero_load

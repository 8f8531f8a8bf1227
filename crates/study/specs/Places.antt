-- The places of a study, and what stands at one.
use Rattle.std.specs.Prelude.{ℕ, ◌<◌, ◌≡◌, [], length, get_or}
use Rattle.rules.specs.Limits.{most_components, most_gates, most_loads, most_tests, most_gate_inputs}
use Rattle.study.specs.declared.Component.{Component}
use Rattle.study.specs.declared.Gate.{Gate}
use Rattle.study.specs.declared.Load.{Load}
use Rattle.study.specs.declared.Study.{Study}
use Rattle.study.specs.Zero.{zero_component, zero_load}

-- what is read past the last gate place
abbrev pub no_gate : Gate
no_gate = record { threshold = 0; tests = 0; component = []; mask = []; gates = 0; input = [] }

abbrev pub component_at : Study → ℕ → Component
component_at t i = get_or t.component i zero_component

abbrev pub gate_at : Study → ℕ → Gate
gate_at t i = get_or t.gate i no_gate

abbrev pub load_at : Study → ℕ → Load
load_at t j = get_or t.load j zero_load

-- a gate has twelve test places and 31 input places
pub record ShapedGate (g : Gate) : Type 0 where
  pub component : length g.component ≡ most_tests
  pub mask : length g.mask ≡ most_tests
  pub input : length g.input ≡ most_gate_inputs

-- every array of the struct has its places: twelve components, 32 gates with those of each, and eight loads
pub record Shaped (t : Study) : Type 0 where
  pub components : length t.component ≡ most_components
  pub gates : length t.gate ≡ most_gates
  pub loads : length t.load ≡ most_loads
  pub gate : (i : ℕ) → i < most_gates → ShapedGate (gate_at t i)

-- What fits the bytes of an image. Every value of the structs does; a number or a list in a definition need not.
use Rattle.std.specs.Prelude.{ℕ, ◌<◌, ◌^◌, ◌≡◌, length}
use Rattle.rules.specs.Limits.{most_components, most_gates, most_loads, most_tests, most_gate_inputs}
use Rattle.study.specs.declared.Component.{Component}
use Rattle.study.specs.declared.Gate.{Gate}
use Rattle.study.specs.declared.Load.{Load}
use Rattle.study.specs.declared.Study.{Study}
use Rattle.study.specs.Places.{component_at, gate_at, load_at}

-- a number fits four bytes
abbrev pub NumberFits : ℕ → Type 0
NumberFits n = n < 2 ^ 32

pub record ComponentFits (c : Component) : Type 0 where
  pub p1 : NumberFits c.p1
  pub p2 : NumberFits c.p2
  pub p3 : NumberFits c.p3

pub record GateFits (g : Gate) : Type 0 where
  pub component : length g.component ≡ most_tests
  pub mask : length g.mask ≡ most_tests
  pub input : length g.input ≡ most_gate_inputs

pub record LoadFits (l : Load) : Type 0 where
  pub customers : NumberFits l.customers
  pub minutes : NumberFits l.minutes

pub record StudyFits (t : Study) : Type 0 where
  pub components : length t.component ≡ most_components
  pub gates : length t.gate ≡ most_gates
  pub loads : length t.load ≡ most_loads
  pub component : (k : ℕ) → k < most_components → ComponentFits (component_at t k)
  pub gate : (k : ℕ) → k < most_gates → GateFits (gate_at t k)
  pub load : (k : ℕ) → k < most_loads → LoadFits (load_at t k)

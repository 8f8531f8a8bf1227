-- A record with one field anew, and a study with one record anew.
use Rattle.std.specs.Prelude.{ℕ, set}
use Rattle.study.specs.declared.Component.{Component}
use Rattle.study.specs.declared.Load.{Load}
use Rattle.study.specs.declared.Study.{Study}

abbrev pub with_probabilities : ℕ → ℕ → ℕ → Component → Component
with_probabilities p1 p2 p3 c = record { states = c.states; p1 = p1; p2 = p2; p3 = p3 }

abbrev pub with_customers : ℕ → Load → Load
with_customers n l = record { gate = l.gate; customers = n; minutes = l.minutes }

abbrev pub with_minutes : ℕ → Load → Load
with_minutes n l = record { gate = l.gate; customers = l.customers; minutes = n }

abbrev pub with_component : ℕ → Component → Study → Study
with_component i c t =
    record {
      components = t.components;
      gates = t.gates;
      loads = t.loads;
      component = set t.component i c;
      gate = t.gate;
      load = t.load;
    }

abbrev pub with_load : ℕ → Load → Study → Study
with_load j l t =
    record {
      components = t.components;
      gates = t.gates;
      loads = t.loads;
      component = t.component;
      gate = t.gate;
      load = set t.load j l;
    }

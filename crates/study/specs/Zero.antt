-- Places that no record uses hold 0; a study of zeros is what a refused opening returns.
use Rattle.std.specs.Prelude.{List, replicate}
use Rattle.rules.specs.Limits.{most_components, most_gates, most_loads, most_tests, most_gate_inputs}
use Rattle.study.specs.declared.Component.{Component}
use Rattle.study.specs.declared.Gate.{Gate}
use Rattle.study.specs.declared.Load.{Load}
use Rattle.study.specs.declared.Study.{Study}

abbrev pub zero_component : Component
zero_component = record { states = 0; p1 = 0; p2 = 0; p3 = 0 }

unfoldable pub zero_gate : Gate
zero_gate =
    record {
      threshold = 0;
      tests = 0;
      component = replicate most_tests 0;
      mask = replicate most_tests 0;
      gates = 0;
      input = replicate most_gate_inputs 0;
    }

abbrev pub zero_load : Load
zero_load = record { gate = 0; customers = 0; minutes = 0 }

unfoldable pub no_components : List Component
no_components = replicate most_components zero_component

unfoldable pub no_gates : List Gate
unfolding zero_gate
no_gates = replicate most_gates zero_gate

unfoldable pub no_loads : List Load
no_loads = replicate most_loads zero_load

unfoldable pub zero_study : Study
unfolding no_components no_gates no_loads
zero_study = record { components = 0; gates = 0; loads = 0; component = no_components; gate = no_gates; load = no_loads }

-- `study::zero_study` meets its contract: each place holds the default.
use Rattle.study.specs.Zero.{zero_study, zero_component, zero_gate, zero_load, no_components, no_gates, no_loads}
use Rattle.study.proofs.Defaults.{all-same, component_default, gate_default, load_default}
use Rattle.study.proofs.zero_study.Goals as goal

pub returns : goal.returns
unfolding zero_study no_components no_gates no_loads
returns c =
    let h = c.default.ensures in
    let components = all-same _ zero_component component_default _ _ h.1.1.1.0 in
    let gates = all-same _ zero_gate gate_default _ _ h.1.1.1.1.0 in
    let loads = all-same _ zero_load load_default _ _ h.1.1.1.1.1 in
    rw (h.0, h.1.0, h.1.1.0, components, gates, loads)

-- `study::state_counts` meets its contract: at each place stands what the closure answers of the component there.
use Rattle.std.proofs.Common.{rules, ◌≡◌, ◌<◌, ◌∙◌, sym, arith, length, get_or}
use Rattle.std.proofs.Math.ListN.{get_or-map, length-map}
use Rattle.std.proofs.lemmas.List.{ext_get_or}
use Rattle.study.specs.declared.Component.{Component}
use Rattle.study.specs.Joint.{states}
use Rattle.study.specs.Zero.{zero_component}
use Rattle.study.proofs.state_counts.Goals as goal

pub returns : goal.returns
returns c =
    let components = c.args.component.now in
    let long : length c.map.result ≡ length (states components) =
    c.map.ensures.items.long ∙ sym (length-map components (λ (k : Component). k.states) ∙ c.told-component) in
    ext_get_or 0 c.map.result (states components) long
    (λ i h.
    let inside : i < 12 = omega (arith, c.map.ensures.items.long) in
    let made = c.map.ensures.items.at i zero_component 0 inside in
    let own : get_or c.map.result i 0 ≡ (get_or components i zero_component).states = search rules in
    own ∙ sym (get_or-map (λ (k : Component). k.states) components i zero_component))

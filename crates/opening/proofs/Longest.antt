-- The longest study opens, by computation over the definitions.
use mathlib.Core.Path.{refl}
use Rattle.lists.specs.Product.{product}
use Rattle.lists.specs.Run.{each}
use Rattle.rules.specs.Breach.{refuse, outside}
use Rattle.reading.specs.Fields.{map_byte}
use Rattle.reading.specs.Reader.{byte, word}
use Rattle.component_record.specs.Component.{state_count, probability, component_field, component}
use Rattle.gate_record.specs.Gate.{threshold, inputs_byte, test, tests, input, inputs, gate_field, gate}
use Rattle.load_record.specs.Load.{loss_gate, size, customers, minutes, load_field, load}
use Rattle.study.specs.Absent.{absent_gate}
use Rattle.study.specs.Zero.{no_components, no_gates, no_loads}
use Rattle.answers.specs.Answered.{answered}
use Rattle.opening.specs.Opening.{count, component_after, component_record, records, study, answer, opened}
use Rattle.opening.specs.Longest.{longest_bytes, LongestOpens}

pub longest-opens : LongestOpens
unfolding longest_bytes each product refuse outside byte word map_byte
    state_count probability component_field component
    threshold inputs_byte test tests input inputs gate_field gate
    loss_gate size customers minutes load_field load
    absent_gate no_components no_gates no_loads
    count component_after component_record records study answered answer opened
longest-opens = record { long = refl; opens = refl }

-- Two loads that share a component, by computation over the definitions.
use mathlib.Core.Path.{◌≡◌, refl, sym, ap, ◌∙◌}
use mathlib.Core.Bool.{true≢false}
use native.Mathlib.Omega.{arith}
use borrow.Author.Tests.{eq-eqb}
use Rattle.lists.specs.Rows.{put}
use Rattle.lists.specs.Run.{each}
use Rattle.lists.specs.Tabulate.{tabulate}
use Rattle.ordering.specs.Inputs.{paired, placed, sorted}
use Rattle.rules.specs.Breach.{refuse, outside}
use Rattle.study.specs.Absent.{absent_gate}
use Rattle.study.specs.Zero.{zero_study}
use Rattle.gate_order.specs.Order.{in_order, ordered}
use Rattle.entries.specs.Entries.{class_borne}
use Rattle.model.specs.Model.{paths_of, probability_table}
use Rattle.probability.specs.Bounds.{total}
use Rattle.probability.specs.Exact.{exact}
use Rattle.reading.specs.Fields.{map_byte}
use Rattle.reading.specs.Reader.{byte, word}
use Rattle.component_record.specs.Component.{state_count, probability, component_field, component}
use Rattle.gate_record.specs.Gate.{threshold, inputs_byte, test, tests, input, inputs, gate_field, gate}
use Rattle.load_record.specs.Load.{loss_gate, size, customers, minutes, load_field, load}
use Rattle.answers.specs.Answered.{answered}
use Rattle.answers.specs.Told.{bounds_told}
use Rattle.units.specs.declared.bounds.Enclosure.{Enclosure}
use Rattle.opening.specs.Laws.{IsOpened}
use Rattle.opening.specs.Opening.{count, component_after, component_record, records, study, answer, opened}
use Rattle.opening.proofs.Opened.Study.{opened-sound}
use Rattle.meaning.specs.Meaning.{by_gates, model_of}
use Rattle.loss_calls.specs.Bounds.{loss_of}
use Rattle.demands.specs.SharedComponent.{sharing, sharing_model, SharedComponent}
use Rattle.demands.specs.WorkedExamples.{at}
use Rattle.demands.proofs.Given.{a-load}
use Rattle.std.specs.Prelude.{Ok}

pub shared-component : SharedComponent
unfolding each refuse outside byte word map_byte
    state_count probability component_field component
    threshold inputs_byte test tests input inputs gate_field gate
    loss_gate size customers minutes load_field load
    count component_after component_record records study answered answer opened
    put paired placed sorted in_order ordered
    absent_gate zero_study
    model_of exact paths_of probability_table total class_borne tabulate
shared-component =
    let opens : IsOpened sharing = refl in
    let bounds : ◌≡◌ {A = Enclosure} (loss_of sharing_model 2) (at 109_000_000) = refl in
    record {
      opens = opens;
      first = refl;
      second = refl;
      both = refl;
      no_product = λ e. true≢false (sym (eq-eqb _ _ e));
      told = ap bounds_told (a-load by_gates (opened sharing).study (opened-sound sharing opens) refl 2 (omega arith) ∙ ap Ok bounds);
    }

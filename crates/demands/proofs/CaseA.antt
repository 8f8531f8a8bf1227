-- Case A has its report, and a refused study its line, by computation over the definitions.
use mathlib.Core.Path.{refl}
use Rattle.lists.specs.Counting.{those, sum_over}
use Rattle.lists.specs.Rows.{put, joined}
use Rattle.lists.specs.Run.{each}
use Rattle.lists.specs.Tabulate.{tabulate}
use Rattle.units.specs.Rounding.{quotient_down, quotient_up}
use Rattle.ordering.specs.Inputs.{paired, placed, sorted}
use Rattle.rules.specs.Breach.{refuse, outside}
use Rattle.text.specs.Lines.{field, number_line, bounds_end, bounds_line, item_line}
use Rattle.text.specs.Numbers.{decimal_within, decimal}
use Rattle.words.specs.Words.{refusal_words, refusal_word}
use Rattle.study.specs.Absent.{absent_gate}
use Rattle.study.specs.Zero.{zero_study}
use Rattle.gate_order.specs.Order.{in_order, ordered}
use Rattle.reading.specs.Fields.{map_byte}
use Rattle.reading.specs.Reader.{byte, word}
use Rattle.component_record.specs.Component.{state_count, probability, component_field, component}
use Rattle.gate_record.specs.Gate.{threshold, inputs_byte, test, tests, gate_field, gate}
use Rattle.load_record.specs.Load.{loss_gate, size, customers, minutes, load_field, load}
use Rattle.answers.specs.Answered.{answered}
use Rattle.opening.specs.Opening.{count, component_after, component_record, records, study, refused_opening, answer, opened}
use Rattle.entries.specs.Entries.{class_borne}
use Rattle.model.specs.Model.{paths_of, probability_table}
use Rattle.probability.specs.Bounds.{total}
use Rattle.meaning.specs.Meaning.{model_of}
use Rattle.evaluation.specs.Figures.{figures_by}
use Rattle.report_lines.specs.Paths.{mark_bytes, entry_line, path_line, path_lines}
use Rattle.report_lines.specs.Classes.{bearing, classes_with, classes_borne, class_line, class_lines}
use Rattle.report_lines.specs.Loads.{load_line, load_lines}
use Rattle.report_lines.specs.Figures.{caidi_line, all_figures, figure_lines}
use Rattle.report_text.specs.Report.{paths_text, classes_text, losses_text, model_text, refused_text, text_by, report_text}
use Rattle.demands.specs.CaseA.{CaseA, OverOne}

pub case-a : CaseA
unfolding each refuse outside byte word map_byte
    state_count probability component_field component
    threshold inputs_byte test tests gate_field gate
    loss_gate size customers minutes load_field load
    count component_after component_record records study answered answer opened
    put paired placed sorted in_order ordered
    absent_gate zero_study
    model_of paths_of probability_table total class_borne tabulate figures_by quotient_down quotient_up
    those sum_over joined field number_line bounds_end bounds_line item_line decimal_within decimal
    mark_bytes entry_line path_line path_lines bearing classes_with classes_borne class_line class_lines load_line load_lines caidi_line all_figures figure_lines
    paths_text classes_text losses_text model_text text_by report_text
case-a = refl

pub over-one : OverOne
unfolding each refuse outside byte word map_byte
    state_count probability component_field component
    count component_after component_record records study refused_opening answered answer opened
    joined field decimal_within decimal refusal_words refusal_word refused_text text_by report_text
over-one = refl

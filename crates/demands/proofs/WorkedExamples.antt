-- The worked examples hold. What the definitions give of the model of each study is computed; that the calls answer and write it follows for any sound
-- study, and an opened one is sound.
use mathlib.Core.Path.{◌≡◌, refl}
use mathlib.Core.Option.{none, some}
use lib.ListN.{length}
use Rattle.lists.specs.Rows.{put}
use Rattle.lists.specs.Run.{each}
use Rattle.lists.specs.Tabulate.{tabulate}
use Rattle.units.specs.Rounding.{quotient_down, quotient_up}
use Rattle.ordering.specs.Inputs.{paired, placed, sorted}
use Rattle.rules.specs.Breach.{refuse, outside}
use Rattle.study.specs.Absent.{absent_gate}
use Rattle.study.specs.Zero.{zero_study}
use Rattle.gate_order.specs.Order.{in_order, ordered}
use Rattle.entries.specs.Entries.{class_borne}
use Rattle.model.specs.Model.{paths_of, probability_table}
use Rattle.probability.specs.Bounds.{total}
use Rattle.probability.specs.Totals.{path_bounds}
use Rattle.reading.specs.Fields.{map_byte}
use Rattle.reading.specs.Reader.{byte, word}
use Rattle.component_record.specs.Component.{state_count, probability, component_field, component}
use Rattle.gate_record.specs.Gate.{threshold, inputs_byte, test, tests, gate_field, gate}
use Rattle.load_record.specs.Load.{loss_gate, size, customers, minutes, load_field, load}
use Rattle.answers.specs.Answered.{answered}
use Rattle.opening.specs.Opening.{count, component_after, component_record, records, study, answer, opened}
use Rattle.meaning.specs.Meaning.{by_gates, model_of}
use Rattle.evaluation.specs.Figures.{figures_by}
use Rattle.demands.specs.WorkedExamples.{Results, Example, votes, opens, listing, case_a_opens, no_loss_gate_opens, RowHolds, WorkedExamples}
use Rattle.demands.proofs.Given.{results_of, answer-sound, gives}
use Rattle.answers.specs.Answers.{finished}

-- ---- the rows

-- an example of opening alone
refused : (e : Example) → opened e.bytes ≡ e.opening → e.results ≡ none → RowHolds e
refused e opens no-results = record { opening = opens; results = rw no-results tt }

-- an example whose study opens; that it is sound is a law of opening
holds : (e : Example) (r : Results) → e.results ≡ some r → opened e.bytes ≡ e.opening → e.opening.outcome ≡ finished
    → results_of (model_of by_gates e.opening.study) ≡ r → length (model_of by_gates e.opening.study).loads ≡ e.opening.study.loads → RowHolds e
holds e r has opens done computed number =
    record { opening = opens; results = rw has (gives by_gates e.opening.study (answer-sound e.bytes opens done) refl r computed number) }

pub worked-examples : WorkedExamples
unfolding each refuse outside byte word map_byte
    state_count probability component_field component
    threshold inputs_byte test tests gate_field gate
    loss_gate size customers minutes load_field load
    count component_after component_record records study answered answer opened
    put paired placed sorted in_order ordered
    absent_gate zero_study votes opens case_a_opens no_loss_gate_opens listing
    model_of paths_of probability_table path_bounds total class_borne tabulate figures_by quotient_down quotient_up
worked-examples = (
  -- A to F
  holds _ _ refl refl refl refl refl,
  (
    holds _ _ refl refl refl refl refl,
    (
      holds _ _ refl refl refl refl refl,
      (
        holds _ _ refl refl refl refl refl,
        (
          holds _ _ refl refl refl refl refl,
          (
            holds _ _ refl refl refl refl refl,
            (
              refused _ refl refl,
              (
                -- G
                holds _ _ refl refl refl refl refl,
                (
                  refused _ refl refl,
                  (
                    -- H and I
                    refused _ refl refl,
                    (
                      refused _ refl refl,
                      (
                        refused _ refl refl,
                        (
                          refused _ refl refl,
                          (
                            -- J and K
                            refused _ refl refl,
                            (
                              holds _ _ refl refl refl refl refl,
                              tt,
                            ),
                          ),
                        ),
                      ),
                    ),
                  ),
                ),
              ),
            ),
          ),
        ),
      ),
    ),
  ),
)

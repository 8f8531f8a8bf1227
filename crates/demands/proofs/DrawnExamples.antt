-- The drawn trees that are worked by hand hold. What the definitions give of the model of each is computed; that the calls answer and write it, or refuse,
-- follows for any sound study, and an opened one is sound.
use Prim.Native.Nat.{ℕ}
use mathlib.Core.Path.{◌≡◌, refl, sym}
use mathlib.Core.List.{List}
use native.Mathlib.Omega.{arith}
use lib.ListN.{length}
use Rattle.lists.specs.Rows.{put}
use Rattle.lists.specs.Run.{each}
use Rattle.lists.specs.Tabulate.{tabulate}
use Rattle.units.specs.Rounding.{quotient_down, quotient_up}
use Rattle.ordering.specs.Inputs.{paired, placed, sorted}
use Rattle.rules.specs.Breach.{refuse, outside}
use Rattle.study.specs.Absent.{absent_gate}
use Rattle.study.specs.Zero.{zero_study}
use Rattle.gate_order.specs.Order.{in_order, ordered}
use Rattle.entries.specs.Entries.{class_borne}
use Rattle.model.specs.Model.{paths_of, probability_table}
use Rattle.probability.specs.Bounds.{total}
use Rattle.probability.specs.Totals.{path_bounds}
use Rattle.reading.specs.Fields.{map_byte}
use Rattle.reading.specs.Reader.{byte, word}
use Rattle.component_record.specs.Component.{state_count, probability, component_field, component}
use Rattle.gate_record.specs.Gate.{threshold, inputs_byte, test, tests, gate_field, gate}
use Rattle.load_record.specs.Load.{loss_gate, size, customers, minutes, load_field, load}
use Rattle.answers.specs.Answered.{answered}
use Rattle.opening.specs.Opening.{count, component_after, component_record, records, study, answer, opened}
use Rattle.evaluation.specs.Figures.{figures_by}
use Rattle.rules.proofs.Kept.{front_kept, front-broken}
use Rattle.drawn_tree.specs.Drawn.{drawn_fault}
use Rattle.study.specs.declared.Study.{Study}
use Rattle.answers.proofs.Answered.{answered-refused}
use Rattle.soundness.specs.Sound.{Sound}
use Rattle.soundness.proofs.Checked.{none-unsound}
use Rattle.meaning.specs.Meaning.{by_tree, meaning_fault, model_of}
use Rattle.path_calls.specs.Listing.{list_fault, paths_listed}
use Rattle.loss_calls.specs.Figures.{figures_fault, figures_given}
use Rattle.demands.specs.DrawnExamples.{DrawnExample, to, refused_by, like_case_a, never_lost, always_lost, lost_by_leaf}
use Rattle.demands.specs.DrawnExamples.{RefusedBy, DrawnRowHolds, DrawnExamples}
use Rattle.demands.specs.WorkedExamples.{Results, case_a_opens, no_loss_gate_opens}
use Rattle.demands.proofs.Given.{results_of, answer-sound, gives}
use Rattle.std.specs.Prelude.{Err}
use Rattle.answers.specs.Answers.{finished}

-- a tree that is refused beside a sound study
tree-refused : (t : Study) (tree : List ℕ) (n : ℕ) → Sound t → meaning_fault (by_tree tree) t ≡ n → (n ≡ 0 → ⊥) → RefusedBy t tree n
unfolding paths_listed list_fault figures_given figures_fault
tree-refused t tree n sound is some =
    record {
      list = λ buffer. rw (front_kept _ _ (none-unsound t sound), ← front-broken _ (sym is) some) (answered-refused Err _ _ some);
      figures = rw (front_kept _ _ (none-unsound t sound), ← front-broken _ (sym is) some) (answered-refused Err _ _ some);
    }

-- ---- the rows

module _ (e : DrawnExample) (opens : opened e.bytes ≡ e.opening) (done : e.opening.outcome ≡ finished) where
  is_sound : Sound e.opening.study
  is_sound = answer-sound e.bytes opens done

  -- a tree that is refused
  refused : (n : ℕ) → e.comes ≡ refused_by n → meaning_fault (by_tree e.tree) e.opening.study ≡ n → (n ≡ 0 → ⊥) → DrawnRowHolds e
  refused n comes is some = record { opening = opens; comes = rw comes (tree-refused e.opening.study e.tree n is_sound is some) }

  -- a tree that is not
  holds : (r : Results) → e.comes ≡ to r → meaning_fault (by_tree e.tree) e.opening.study ≡ 0
      → results_of (model_of (by_tree e.tree) e.opening.study) ≡ r
      → length (model_of (by_tree e.tree) e.opening.study).loads ≡ e.opening.study.loads → DrawnRowHolds e
  holds r comes kept computed number =
      record { opening = opens; comes = rw comes (gives (by_tree e.tree) e.opening.study is_sound kept r computed number) }

pub drawn-examples : DrawnExamples
unfolding each refuse outside byte word map_byte
    state_count probability component_field component
    threshold inputs_byte test tests gate_field gate
    loss_gate size customers minutes load_field load
    count component_after component_record records study answered answer opened
    put paired placed sorted in_order ordered
    absent_gate zero_study case_a_opens no_loss_gate_opens drawn_fault like_case_a never_lost always_lost lost_by_leaf
    model_of paths_of probability_table path_bounds total class_borne tabulate figures_by quotient_down quotient_up
drawn-examples = (
  holds _ refl refl like_case_a refl refl refl refl,
  (
    holds _ refl refl like_case_a refl refl refl refl,
    (
      holds _ refl refl never_lost refl refl refl refl,
      (
        holds _ refl refl always_lost refl refl refl refl,
        (
          holds _ refl refl lost_by_leaf refl refl refl refl,
          (
            refused _ refl refl _ refl refl (λ none. omega (arith, none)),
            (
              refused _ refl refl _ refl refl (λ none. omega (arith, none)),
              (
                refused _ refl refl _ refl refl (λ none. omega (arith, none)),
                (
                  refused _ refl refl _ refl refl (λ none. omega (arith, none)),
                  (
                    refused _ refl refl _ refl refl (λ none. omega (arith, none)),
                    (
                      refused _ refl refl _ refl refl (λ none. omega (arith, none)),
                      (
                        refused _ refl refl _ refl refl (λ none. omega (arith, none)),
                        (
                          refused _ refl refl _ refl refl (λ none. omega (arith, none)),
                          tt,
                        ),
                      ),
                    ),
                  ),
                ),
              ),
            ),
          ),
        ),
      ),
    ),
  ),
)

-- What the calls on a sound study answer and write under a meaning that is not refused, lent whatever has the room: what the definitions give of its model.
use Prim.Native.Nat.{ℕ, ◌<◌, ◌≤◌}
use mathlib.Core.Path.{◌≡◌, sym, ap, subst, ◌∙◌}
use mathlib.Core.List.{List, [], ◌∷◌}
use lib.ListN.{length}
use Rattle.lists.specs.Rows.{joined}
use Rattle.lists.specs.Tabulate.{tabulate}
use Rattle.lists.proofs.Tabulated.{get_or-tabulate, length-tabulate}
use Rattle.rules.specs.Breach.{first_breach}
use Rattle.rules.specs.Table.{unsound_fault}
use Rattle.rules.proofs.Kept.{list-none, none-none, front_kept, list-last}
use Rattle.rules.proofs.Rows.{room-none, item-none}
use Rattle.study.specs.declared.Study.{Study}
use Rattle.entries.specs.Entries.{class_places}
use Rattle.model.specs.Model.{Model, paths_of}
use Rattle.answers.specs.Told.{outcome_told}
use Rattle.answers.proofs.Answered.{answered-done, filled-done}
use Rattle.soundness.specs.Check.{sound}
use Rattle.soundness.specs.Sound.{Sound}
use Rattle.soundness.proofs.Checked.{none-unsound}
use Rattle.opening.specs.Opening.{opened}
use Rattle.opening.proofs.Opened.Study.{opened-sound}
use Rattle.meaning.specs.Meaning.{Meaning, meaning_fault, model_of}
use Rattle.evaluation.specs.Bounds.{path_lowers, path_uppers, class_lowers, class_uppers, load_lowers, load_uppers}
use Rattle.evaluation.specs.Figures.{figures_by}
use Rattle.evaluation.specs.Rooms.{pair_fault}
use Rattle.path_calls.specs.Bounds.{pair_breach, paths_bounded, lower_of_paths, upper_of_paths, classes_bounded, lower_of_classes, upper_of_classes}
use Rattle.path_calls.specs.Listing.{path_list, list_fault, paths_listed, buffer_listed}
use Rattle.loss_calls.specs.Bounds.{loss_of, loss_fault, load_bounded}
use Rattle.loss_calls.specs.Figures.{figures_fault, figures_given}
use Rattle.demands.specs.WorkedExamples.{Results, ListIs, PairIs, Gives}
use Rattle.std.specs.Prelude.{Ok, Err}
use Rattle.answers.specs.Answers.{StudyAnswer, finished}

-- ---- what the definitions give of a model

abbrev pub results_of : Model → Results
results_of m =
    record {
      paths = paths_of m;
      lower = path_lowers m;
      upper = path_uppers m;
      class_lower = class_lowers m;
      class_upper = class_uppers m;
      loads = tabulate (loss_of m) (length m.loads);
      figures = figures_by (load_lowers m) (load_uppers m) m.loads;
    }

-- ---- what the calls on a sound study answer and write

module _ (m : Meaning) (t : Study) (s : Sound t) (kept : meaning_fault m t ≡ 0) where
  -- 16, the meaning and one breach more: none where that is none
  none_of : (breach : ℕ) → breach ≡ 0 → first_breach (unsound_fault (sound t) ∷ meaning_fault m t ∷ breach ∷ []) ≡ 0
  none_of breach last = list-none _ _ (none-unsound t s) (list-none _ _ kept (list-none breach [] last none-none))

  pair-none : (need : ℕ) (lower upper : List ℕ) → need ≤ length lower → need ≤ length upper → pair_breach m t need lower upper ≡ 0
  unfolding pair_breach pair_fault
  pair-none need lower upper low high =
      none_of _ (list-none _ _ (room-none need (length lower) low) (list-none _ [] (room-none need (length upper) high) none-none))

  pub the-list : ListIs m t (path_list m t)
  unfolding paths_listed buffer_listed list_fault
  the-list =
      record {
        answer = λ buffer room. answered-done Err _ _ (none_of _ (room-none _ (length buffer) room));
        written = λ buffer room. filled-done _ (joined (path_list m t)) buffer (none_of _ (room-none _ (length buffer) room));
      }

  pub the-paths : PairIs (paths_bounded m t) (lower_of_paths m t) (upper_of_paths m t) (Ok (length (path_list m t))) (length (path_list m t))
      (path_lowers (model_of m t)) (path_uppers (model_of m t))
  unfolding paths_bounded
  the-paths =
      record {
        answered = λ lower upper low high. answered-done Err _ _ (pair-none _ lower upper low high);
        lower_written = λ lower upper low high. filled-done _ _ lower (pair-none _ lower upper low high);
        upper_written = λ lower upper low high. filled-done _ _ upper (pair-none _ lower upper low high);
      }

  pub the-classes : PairIs (classes_bounded m t) (lower_of_classes m t) (upper_of_classes m t) finished class_places
      (class_lowers (model_of m t)) (class_uppers (model_of m t))
  unfolding classes_bounded
  the-classes =
      record {
        answered = λ lower upper low high. answered-done Err _ _ (pair-none _ lower upper low high);
        lower_written = λ lower upper low high. filled-done _ _ lower (pair-none _ lower upper low high);
        upper_written = λ lower upper low high. filled-done _ _ upper (pair-none _ lower upper low high);
      }

  pub a-load : (j : ℕ) → j < t.loads → load_bounded m t j ≡ Ok (loss_of (model_of m t) j)
  unfolding load_bounded loss_fault
  a-load j below =
      answered-done Err _ _ (list-none _ _ (none-unsound t s) (list-none _ _ (item-none t.loads j below) (list-none _ [] kept none-none)))

  pub the-figures : figures_given m t ≡ figures_by (load_lowers (model_of m t)) (load_uppers (model_of m t)) (model_of m t).loads
  unfolding figures_given figures_fault figures_by model_of
  the-figures = rw (front_kept _ _ (none-unsound t s), front_kept _ _ kept, list-last)

  pub gives : (r : Results) → results_of (model_of m t) ≡ r → length (model_of m t).loads ≡ t.loads → Gives m t r
  gives r is number =
      subst (Gives m t) is
      (record {
        list = the-list;
        paths = the-paths;
        classes = the-classes;
        loads = λ j below. a-load j below ∙ ap Ok (sym (get_or-tabulate (loss_of (model_of m t)) (length (model_of m t).loads) j _ (rw number below)));
        each_load = length-tabulate (loss_of (model_of m t)) (length (model_of m t).loads) ∙ number;
        figures = the-figures;
      })

-- what opening answers is sound where it is done
pub answer-sound : (bytes : List ℕ) {a : StudyAnswer} → opened bytes ≡ a → a.outcome ≡ finished → Sound a.study
answer-sound bytes opens done =
    subst (λ (a : StudyAnswer). Sound a.study) opens (opened-sound bytes (ap (λ (a : StudyAnswer). outcome_told a.outcome) opens ∙ ap outcome_told done))

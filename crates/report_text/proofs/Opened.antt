-- What opening answers decides the text of a report, and the text of a study's model is that under the class table of its gates.
use Prim.Native.Nat.{ℕ, ◌≤◌}
use mathlib.Core.Path.{◌≡◌, sym, ap, subst, ◌∙◌}
use mathlib.Core.List.{List, [], ◌∷◌}
use lib.ListN.{length}
use Rattle.lists.specs.Rows.{joined}
use Rattle.text.specs.Letters.{letters}
use Rattle.text.specs.Lines.{number_line}
use Rattle.rules.specs.Limits.{most_joint_states}
use Rattle.study.specs.declared.Load.{Load}
use Rattle.study.specs.declared.Study.{Study}
use Rattle.answers.specs.Told.{outcome_told}
use Rattle.soundness.specs.Sound.{Sound}
use Rattle.opening.specs.Opening.{opened}
use Rattle.opening.proofs.Opened.Study.{opened-sound}
use Rattle.model.specs.declared.HeldModel.{HeldModel}
use Rattle.model.specs.InHand.{model_held}
use Rattle.model.specs.Model.{components, paths_of, probability_table}
use Rattle.probability.specs.Totals.{lower_classes, upper_classes, lower_loads, upper_loads}
use Rattle.study_model.specs.Holding.{Holds}
use Rattle.meaning.specs.Meaning.{by_gates, model_of}
use Rattle.meaning.specs.Sources.{Tabled}
use Rattle.meaning.proofs.Tables.{table-values, table-loads}
use Rattle.evaluation.specs.Figures.{figures_by}
use Rattle.report_lines.specs.Classes.{classes_borne, class_lines}
use Rattle.report_lines.specs.Figures.{figure_lines}
use Rattle.report_lines.specs.Loads.{load_lines}
use Rattle.report_lines.specs.Paths.{path_lines}
use Rattle.report_text.specs.Report.{paths_text, classes_text, losses_text, model_text, refused_text, text_by, report_text}
use Rattle.std.specs.Prelude.{Err}
use Rattle.answers.specs.Answers.{Outcome, StudyAnswer, finished}

module _ (bytes : List ℕ) {answer : StudyAnswer} (e : answer ≡ opened bytes) where
  by_answer : {o : Outcome} → answer.outcome ≡ o → text_by o answer.study ≡ report_text bytes
  unfolding report_text
  by_answer is = ap (λ (o : Outcome). text_by o answer.study) (sym is) ∙ ap (λ (a : StudyAnswer). text_by a.outcome a.study) e

  pub text-done : answer.outcome ≡ finished → model_text (model_of by_gates answer.study) ≡ report_text bytes
  unfolding text_by
  text-done done = by_answer done

  pub text-refused : {n : ℕ} → answer.outcome ≡ Err n → refused_text n ≡ report_text bytes
  unfolding text_by
  text-refused refused = by_answer refused

  pub opened-study : answer.outcome ≡ finished → Sound answer.study
  opened-study done =
      let told = ap (λ (a : StudyAnswer). outcome_told a.outcome) (sym e) ∙ ap outcome_told done in
      subst (λ (a : StudyAnswer). Sound a.study) (sym e) (opened-sound bytes told)

-- a sound study in hand beside the class table of its gates
module _ {t : Study} {h : HeldModel} {was : List ℕ} (table : List ℕ) (sound : Sound t) (holds : Holds t h) (room : most_joint_states ≤ length table)
    (tabled : Tabled by_gates t was table) where
  -- the text of what is worked out of paths, and of loads
  abbrev text_of : List Load → List ℕ → ℕ → List (List ℕ) → List ℕ
  text_of loads p n entries =
      joined
      (joined (number_line (letters "PATHS") (length entries) ∷ path_lines p n entries ∷ [])
      ∷ class_lines (classes_borne n entries) (lower_classes p n entries) (upper_classes p n entries)
      ∷ joined
      (load_lines (lower_loads p n entries) (upper_loads p n entries) (length loads)
      ∷ figure_lines (figures_by (lower_loads p n entries) (upper_loads p n entries) loads)
      ∷ [])
      ∷ [])

  pub table-text : model_text (model_held h table) ≡ model_text (model_of by_gates t)
  unfolding model_text paths_text classes_text losses_text
  table-text =
      ap (λ (loads : List Load). text_of loads (probability_table (model_held h table)) (components (model_held h table)) (paths_of (model_held h table)))
      (table-loads by_gates table sound holds room tabled)
      ∙ table-values by_gates table sound holds room tabled (text_of (model_of by_gates t).loads)

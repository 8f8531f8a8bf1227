-- The whole report of a study's bytes.
use Rattle.std.specs.Prelude.{ℕ, List, [], ◌∷◌, length}
use Rattle.lists.specs.Rows.{joined}
use Rattle.text.specs.Letters.{letters}
use Rattle.text.specs.Lines.{field, number_line}
use Rattle.words.specs.Words.{refusal_word}
use Rattle.study.specs.declared.Study.{Study}
use Rattle.model.specs.Model.{Model, components, paths_of, probability_table}
use Rattle.opening.specs.Opening.{opened}
use Rattle.meaning.specs.Meaning.{by_gates, model_of}
use Rattle.evaluation.specs.Bounds.{class_lowers, class_uppers, load_lowers, load_uppers}
use Rattle.evaluation.specs.Figures.{figures_by}
use Rattle.report_lines.specs.Paths.{path_lines}
use Rattle.report_lines.specs.Classes.{classes_borne, class_lines}
use Rattle.report_lines.specs.Loads.{load_lines}
use Rattle.report_lines.specs.Figures.{figure_lines}
use Rattle.std.specs.Prelude.{Ok, Err}
use Rattle.answers.specs.Answers.{Outcome}

-- room for any report
abbrev pub report_bytes : ℕ
report_bytes = 180224

-- room for the line of any refusal
abbrev pub refused_bytes : ℕ
refused_bytes = 32

-- ---- the text of a model

-- the number of paths, then their lines
unfoldable pub paths_text : Model → List ℕ
paths_text m =
    joined
    (number_line (letters "PATHS") (length (paths_of m)) ∷ path_lines (probability_table m) (components m) (paths_of m) ∷ [])

-- the lines of the classes that occur
unfoldable pub classes_text : Model → List ℕ
classes_text m = class_lines (classes_borne (components m) (paths_of m)) (class_lowers m) (class_uppers m)

-- the lines of the loads, then those of the figures: both tell of losses
unfoldable pub losses_text : Model → List ℕ
losses_text m =
    joined (load_lines (load_lowers m) (load_uppers m) (length m.loads) ∷ figure_lines (figures_by (load_lowers m) (load_uppers m) m.loads) ∷ [])

-- paths, classes, and losses with the figures
unfoldable pub model_text : Model → List ℕ
unfolding paths_text classes_text losses_text
model_text m = joined (paths_text m ∷ classes_text m ∷ losses_text m ∷ [])

-- ---- the report

-- the line of a refused study: the number and its word
unfoldable pub refused_text : ℕ → List ℕ
refused_text n = joined (letters "REFUSED" ∷ field n ∷ letters " " ∷ refusal_word n ∷ letters "\n" ∷ [])

-- by what opening answers
unfoldable pub text_by : Outcome → Study → List ℕ
unfolding model_text refused_text model_of
text_by (Ok a) t = model_text (model_of by_gates t)
text_by (Err n) t = refused_text n

-- the report of a study's bytes
unfoldable pub report_text : List ℕ → List ℕ
unfolding text_by opened
report_text bytes = text_by (opened bytes).outcome (opened bytes).study

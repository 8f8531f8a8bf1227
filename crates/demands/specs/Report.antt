-- The report says what the calls tell, so that the demands hold of its numbers; and no report is longer than the
-- program's buffer.
use Rattle.std.specs.Prelude.{ℕ, ◌+◌, ◌≡◌, List, [], ◌∷◌, length, get_or, take}
use Rattle.lists.specs.Rows.{joined}
use Rattle.lists.specs.Tabulate.{tabulate}
use Rattle.text.specs.Letters.{letters}
use Rattle.text.specs.Lines.{number_line, item_line}
use Rattle.rules.specs.Limits.{longest_study}
use Rattle.study.specs.declared.Study.{Study}
use Rattle.study.specs.Joint.{state_counts}
use Rattle.answers.specs.Told.{Told, result, refusal}
use Rattle.entries.specs.Entries.{class_borne}
use Rattle.soundness.specs.Sound.{Sound}
use Rattle.opening.specs.Laws.{IsOpened}
use Rattle.opening.specs.Opening.{opened}
use Rattle.model.specs.Model.{paths_of}
use Rattle.meaning.specs.Meaning.{by_gates, model_of}
use Rattle.evaluation.specs.Bounds.{path_lowers, path_uppers, class_lowers, class_uppers}
use Rattle.report_lines.specs.Paths.{entry_line}
use Rattle.report_lines.specs.Classes.{classes_borne, class_lines}
use Rattle.report_lines.specs.Figures.{figure_lines}
use Rattle.report_text.specs.Laws
use Rattle.report_text.specs.Report.{report_text}
use Rattle.path_calls.specs.Bounds.{lower_of_paths, upper_of_paths, lower_of_classes, upper_of_classes}
use Rattle.loss_calls.specs.Figures.{figures_given}
use Rattle.demands.specs.Calls.{path_bounds, class_bounds, load_bounds, call_told}
use Rattle.demands.specs.Listed.{ListedBy, paths_in, path_in}

-- ---- what the calls on a study told

-- what the calls by its gates were lent: a buffer for the list, two slices for the bounds of its paths, and two for
-- those of classes
pub record Slices : Type 0 where
  pub buffer : List ℕ
  pub lower : List ℕ
  pub upper : List ℕ
  pub class_lower : List ℕ
  pub class_upper : List ℕ

-- none of them was refused, and there are p paths
pub record Asked (t : Study) (p : ℕ) (lent : Slices) : Type 0 where
  pub listed : ListedBy by_gates t lent.buffer p
  pub bounded : call_told (path_bounds by_gates lent.lower lent.upper) t ≡ result (p ∷ [])
  pub classed : call_told (class_bounds by_gates lent.class_lower lent.class_upper) t ≡ result []

-- ---- the lines that say it

module _ (t : Study) (p : ℕ) (lent : Slices) where
  -- path i of the list
  abbrev pub listed_path : ℕ → List ℕ
  listed_path i = path_in by_gates t lent.buffer p i

  -- P: entry i of the buffer with its class, and the numbers at places i of the two slices
  abbrev pub path_said : ℕ → List ℕ
  path_said i =
      entry_line (length (state_counts t)) (listed_path i) (class_borne (length (state_counts t)) (listed_path i))
      (get_or (lower_of_paths by_gates t lent.lower lent.upper) i 0)
      (get_or (upper_of_paths by_gates t lent.lower lent.upper) i 0)

  -- K: each class that an entry of the buffer bears, ascending, with the numbers at its places of the two slices
  abbrev pub classes_said : List ℕ
  classes_said =
      class_lines (classes_borne (length (state_counts t)) (paths_in by_gates t lent.buffer p))
      (lower_of_classes by_gates t lent.class_lower lent.class_upper)
      (upper_of_classes by_gates t lent.class_lower lent.class_upper)

-- L: a load with the pair that the call for it told
unfoldable pub load_said : ℕ → Told → List ℕ
load_said j (result values) = item_line (letters "L") j (get_or values 0 0) (get_or values 1 0)
load_said j (refusal n) = []

-- the whole text: the number of paths, a line for each path, for each class that occurs and for each load, and the
-- lines of the figures that are answered
abbrev pub text_said : Study → ℕ → Slices → List ℕ
text_said t p lent =
    joined
    (number_line (letters "PATHS") p
    ∷ joined (tabulate (path_said t p lent) p)
    ∷ classes_said t p lent
    ∷ joined (tabulate (λ (j : ℕ). load_said j (call_told (load_bounds by_gates j) t)) t.loads)
    ∷ figure_lines (figures_given by_gates t)
    ∷ [])

-- ---- the claims

pub record ReportSays : Type 0 where
  -- The report of bytes that open is made of what the calls on the opened study told and left, number by number.
  pub says : (bytes : List ℕ) (p : ℕ) (lent : Slices) → IsOpened bytes → Asked (opened bytes).study p lent
      → report_text bytes ≡ text_said (opened bytes).study p lent
  -- Every sound study can be asked so, with slices that are just long enough.
  pub askable : (t : Study) → Sound t
      → Asked t (length (paths_of (model_of by_gates t)))
      (record {
        buffer = joined (paths_of (model_of by_gates t));
        lower = path_lowers (model_of by_gates t);
        upper = path_uppers (model_of by_gates t);
        class_lower = class_lowers (model_of by_gates t);
        class_upper = class_uppers (model_of by_gates t);
      })

-- No report is longer than the buffer of the program, which is therefore never refused by 18.
abbrev pub ReportFits : Type 0
ReportFits = Rattle.report_text.specs.Laws.ReportFits

-- The report of an input is that of its first 2,024 bytes, and a program need read no more.
abbrev pub InputCut : Type 0
InputCut = (bytes : List ℕ) → report_text (take (longest_study + 1) bytes) ≡ report_text bytes

-- The later calls, those on an opened study, as one type: what each tells, its breaches in order, the numbers that
-- documents 01 and 02 list for it, and what it leaves of the study and of what was lent.
use Rattle.std.specs.Prelude.{ℕ, List, [], ◌∷◌, ◌++◌, length}
use Rattle.lists.specs.Rows.{joined}
use Rattle.study.specs.declared.Study.{Study}
use Rattle.answers.specs.Told.{Told, pair_values, figure_values, outcome_told, listing_told, count_told, bounds_told, figures_told}
use Rattle.study_bytes.specs.Written.{study_bytes}
use Rattle.writing.specs.Saving.{write_breaches, study_written, buffer_written}
use Rattle.entries.specs.Entries.{class_places}
use Rattle.model.specs.Model.{paths_of}
use Rattle.meaning.specs.Meaning.{Meaning, by_gates, by_tree, model_of}
use Rattle.evaluation.specs.Bounds.{path_lowers, path_uppers, class_lowers, class_uppers}
use Rattle.evaluation.specs.Figures.{model_figures}
use Rattle.path_calls.specs.Bounds.{pair_breaches, paths_bounded, lower_of_paths, upper_of_paths, classes_bounded, lower_of_classes, upper_of_classes}
use Rattle.path_calls.specs.Listing.{path_list, list_breaches, paths_listed, buffer_listed}
use Rattle.loss_calls.specs.Bounds.{loss_breaches, loss_of, load_bounded}
use Rattle.loss_calls.specs.Figures.{figures_breaches, figures_given}
use Rattle.demands.specs.Edits.{Edit, probabilities, customers, minutes, edit, edit_breaches}

-- a call, with what it names, with what it is about where a tree may be drawn beside the study, and with what the
-- lent buffer or slices held
pub data Call : Type 0 where
  an_edit : Edit → Call
  list_paths : Meaning → List ℕ → Call
  path_bounds : Meaning → List ℕ → List ℕ → Call
  class_bounds : Meaning → List ℕ → List ℕ → Call
  load_bounds : Meaning → ℕ → Call
  figures : Meaning → Call
  write_study : List ℕ → Call

-- what can be asked under a meaning, by gates or by a drawn tree alike: the list, with a buffer; the bounds of paths
-- and of classes, with two slices; those of a load; the figures
pub data Question : Type 0 where
  paths : List ℕ → Question
  bounds_of_paths : List ℕ → List ℕ → Question
  bounds_of_classes : List ℕ → List ℕ → Question
  bounds_of_load : ℕ → Question
  all_figures : Question

abbrev pub ask : Meaning → Question → Call
ask m (paths buffer) = list_paths m buffer
ask m (bounds_of_paths lower upper) = path_bounds m lower upper
ask m (bounds_of_classes lower upper) = class_bounds m lower upper
ask m (bounds_of_load j) = load_bounds m j
ask m all_figures = figures m

-- what its answer tells
abbrev pub call_told : Call → Study → Told
call_told (an_edit e) t = outcome_told (edit e t).outcome
call_told (list_paths m buffer) t = listing_told (paths_listed m t buffer)
call_told (path_bounds m lower upper) t = count_told (paths_bounded m t lower upper)
call_told (class_bounds m lower upper) t = outcome_told (classes_bounded m t lower upper)
call_told (load_bounds m j) t = bounds_told (load_bounded m t j)
call_told (figures m) t = figures_told (figures_given m t)
call_told (write_study buffer) t = count_told (study_written t buffer)

-- the list of its breaches, in order
abbrev pub call_breaches : Call → Study → List ℕ
call_breaches (an_edit e) t = edit_breaches e t
call_breaches (list_paths m buffer) t = list_breaches m t (length buffer)
call_breaches (path_bounds m lower upper) t = pair_breaches m t (length (paths_of (model_of m t))) (length lower) (length upper)
call_breaches (class_bounds m lower upper) t = pair_breaches m t class_places (length lower) (length upper)
call_breaches (load_bounds m j) t = loss_breaches m t j
call_breaches (figures m) t = figures_breaches m t
call_breaches (write_study buffer) t = write_breaches t (length buffer)

-- the values of its result
abbrev pub call_values : Call → Study → List ℕ
call_values (an_edit e) t = []
call_values (list_paths m buffer) t = length (path_list m t) ∷ []
call_values (path_bounds m lower upper) t = length (paths_of (model_of m t)) ∷ []
call_values (class_bounds m lower upper) t = []
call_values (load_bounds m j) t = pair_values (loss_of (model_of m t) j)
call_values (figures m) t = figure_values (model_figures (model_of m t))
call_values (write_study buffer) t = length (study_bytes t) ∷ []

-- the numbers of a drawn tree; gates are judged with their study
abbrev pub meaning_numbers : Meaning → List ℕ
meaning_numbers by_gates = []
meaning_numbers (by_tree tree) = 20 ∷ 21 ∷ 22 ∷ []

-- the numbers by which it can be refused once the study is found sound
abbrev pub numbers_behind : Call → List ℕ
numbers_behind (an_edit (probabilities i p1 p2 p3)) = 17 ∷ 5 ∷ 6 ∷ []
numbers_behind (an_edit (customers j n)) = 17 ∷ 14 ∷ []
numbers_behind (an_edit (minutes j n)) = 17 ∷ 14 ∷ []
numbers_behind (list_paths m buffer) = meaning_numbers m ++ 18 ∷ []
numbers_behind (path_bounds m lower upper) = meaning_numbers m ++ 18 ∷ []
numbers_behind (class_bounds m lower upper) = meaning_numbers m ++ 18 ∷ []
numbers_behind (load_bounds m j) = 17 ∷ meaning_numbers m
numbers_behind (figures m) = meaning_numbers m ++ 19 ∷ []
numbers_behind (write_study buffer) = 18 ∷ []

-- the study that the caller then has: an edit answers one, and every other call leaves the caller's own
abbrev pub study_after : Call → Study → Study
study_after (an_edit e) t = (edit e t).study
study_after (list_paths m buffer) t = t
study_after (path_bounds m lower upper) t = t
study_after (class_bounds m lower upper) t = t
study_after (load_bounds m j) t = t
study_after (figures m) t = t
study_after (write_study buffer) t = t

-- something lent: what it held before and holds after, and what a call that is not refused fills its front with
pub record Lent : Type 0 where
  pub before : List ℕ
  pub after : List ℕ
  pub result : List ℕ

abbrev pub call_lent : Call → Study → List Lent
call_lent (an_edit e) t = []
call_lent (list_paths m buffer) t = record { before = buffer; after = buffer_listed m t buffer; result = joined (path_list m t) } ∷ []
call_lent (path_bounds m lower upper) t =
    record { before = lower; after = lower_of_paths m t lower upper; result = path_lowers (model_of m t) }
    ∷ record { before = upper; after = upper_of_paths m t lower upper; result = path_uppers (model_of m t) }
    ∷ []
call_lent (class_bounds m lower upper) t =
    record { before = lower; after = lower_of_classes m t lower upper; result = class_lowers (model_of m t) }
    ∷ record { before = upper; after = upper_of_classes m t lower upper; result = class_uppers (model_of m t) }
    ∷ []
call_lent (load_bounds m j) t = []
call_lent (figures m) t = []
call_lent (write_study buffer) t = record { before = buffer; after = buffer_written t buffer; result = study_bytes t } ∷ []

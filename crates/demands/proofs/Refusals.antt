-- Every call is refused by the first breach of its list, and leaves what was lent as it was. What carries it: an answer tells its breach or its values
-- (`answers`), a lent slice is filled or left by the same breach, and each call's definitions say so of its own list.
use Prim.Native.Nat.{ℕ}
use mathlib.Core.Path.{◌≡◌, refl, ap, ◌∙◌}
use mathlib.Core.List.{List, [], ◌∷◌}
use lib.ListN.{length, get_or, take}
use Rattle.rules.specs.Breach.{first_breach}
use Rattle.study.specs.declared.Study.{Study}
use Rattle.answers.specs.Answered.{filled}
use Rattle.answers.specs.Told.{Told, refusal, tells, outcome_told, listing_told, count_told, bounds_told, figures_told}
use Rattle.answers.proofs.Answered.{answered-tells, no-breach, some-breach, filled-refused, filled-taken, filled-behind}
use Rattle.writing.specs.Saving.{write_fault, study_written, buffer_written}
use Rattle.path_calls.specs.Bounds.{pair_breach, paths_bounded, classes_bounded}
use Rattle.path_calls.specs.Listing.{list_fault, paths_listed, buffer_listed}
use Rattle.loss_calls.specs.Bounds.{loss_fault, load_bounded}
use Rattle.loss_calls.specs.Figures.{figures_fault, figures_given}
use Rattle.lent_text.specs.Lent.{text_fault, written}
use Rattle.lent_text.proofs.Handed.{reported-tells}
use Rattle.words.specs.Words.{refusal_word}
use Rattle.report_text.specs.Lent.{report_fault}
use Rattle.report_text.proofs.Reported.{report-tells}
use Rattle.demands.specs.Calls.{Call, an_edit, list_paths, path_bounds, class_bounds, load_bounds, figures, write_study}
use Rattle.demands.specs.Calls.{call_told, call_breaches, call_values, study_after, Lent, call_lent}
use Rattle.demands.specs.Demand1.{OfEach, Kept, FrontFilled, KeptBehind, Refuses, CallsRefuse, TextRefuses, ReportRefuses, TextsRefuse}
use Rattle.demands.proofs.Edited.{edit-tells, edit-kept}
use Rattle.std.specs.Prelude.{Err}

-- ---- any call

-- a lent slice that is filled, or left, by a breach
abbrev FilledBy : ℕ → Lent → Type 0
FilledBy breach l = l.after ≡ filled breach l.result l.before

of-each : (P Q : Lent → Type 0) → ((l : Lent) → P l → Q l) → (ls : List Lent) → OfEach P ls → OfEach Q ls
of-each P Q on [] h = tt
of-each P Q on (l ∷ ls) h = (on l h.0, of-each P Q on ls h.1)

-- without one its front is the result
front_of : {breach : ℕ} (l : Lent) → FilledBy breach l → breach ≡ 0 → FrontFilled l
front_of {breach} l fill none = ap (take (length l.result)) fill ∙ filled-taken breach l.result l.before none

pub refuses : {told : Told} (breaches values : List ℕ) (lent : List Lent) → told ≡ tells (first_breach breaches) values
    → OfEach (FilledBy (first_breach breaches)) lent → Refuses told breaches values lent
refuses breaches values lent is fills =
    record {
      answer = is;
      kept = λ n refused. of-each _ Kept (λ l fill. fill ∙ filled-refused _ l.result l.before (some-breach _ values n is refused)) lent fills;
      front = λ others done. of-each _ FrontFilled (λ l fill. front_of l fill (no-breach _ values others is done)) lent fills;
      behind = of-each _ KeptBehind (λ l fill k h. ap (λ (s : List ℕ). get_or s k 0) fill ∙ filled-behind _ l.result l.before k h) lent fills;
    }

-- ---- each call

call-refuses : (c : Call) (t : Study) → Refuses (call_told c t) (call_breaches c t) (call_values c t) (call_lent c t)
unfolding list_fault paths_listed buffer_listed pair_breach paths_bounded classes_bounded loss_fault load_bounded figures_fault figures_given
    write_fault study_written buffer_written
call-refuses (an_edit e) t = refuses _ _ [] (edit-tells e t) tt
call-refuses (list_paths m buffer) t = refuses _ _ _ (answered-tells Err _ _ listing_told _ (λ n. refl) refl) (refl, tt)
call-refuses (path_bounds m lower upper) t = refuses _ _ _ (answered-tells Err _ _ count_told _ (λ n. refl) refl) (refl, (refl, tt))
call-refuses (class_bounds m lower upper) t = refuses _ _ _ (answered-tells Err _ _ outcome_told _ (λ n. refl) refl) (refl, (refl, tt))
call-refuses (load_bounds m j) t = refuses _ _ [] (answered-tells Err _ _ bounds_told _ (λ n. refl) refl) tt
call-refuses (figures m) t = refuses _ _ [] (answered-tells Err _ _ figures_told _ (λ n. refl) refl) tt
call-refuses (write_study buffer) t = refuses _ _ _ (answered-tells Err _ _ count_told _ (λ n. refl) refl) (refl, tt)

study_kept : (c : Call) (t : Study) (n : ℕ) → call_told c t ≡ refusal n → study_after c t ≡ t
study_kept (an_edit e) t n refused = edit-kept e t (some-breach _ [] n (edit-tells e t) refused)
study_kept (list_paths m buffer) t n refused = refl
study_kept (path_bounds m lower upper) t n refused = refl
study_kept (class_bounds m lower upper) t n refused = refl
study_kept (load_bounds m j) t n refused = refl
study_kept (figures m) t n refused = refl
study_kept (write_study buffer) t n refused = refl

pub calls-refuse : CallsRefuse
calls-refuse = record { refuses = call-refuses; study_kept = study_kept }

-- any text in a lent buffer
text-refuses : (text buffer : List ℕ) → TextRefuses text buffer
unfolding text_fault written
text-refuses text buffer = refuses _ _ _ (reported-tells text buffer) (refl, tt)

report-refuses : (bytes text lower upper : List ℕ) → ReportRefuses bytes text lower upper
unfolding report_fault
report-refuses bytes text lower upper = refuses _ _ _ (report-tells bytes text lower upper) (refl, (refl, (refl, tt)))

pub texts-refuse : TextsRefuse
texts-refuse = record { report = report-refuses; word = λ number. text-refuses (refusal_word number) }

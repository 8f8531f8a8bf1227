-- No report is longer than the report buffer: the lines of 4,096 paths, 256 classes, eight loads and the figures.
use Prim.Native.Nat.{ℕ, ◌+◌, ◌*◌, ◌^◌, ◌<◌, ◌≤◌}
use mathlib.Core.Bool.{Bool, true, false}
use mathlib.Core.Path.{◌≡◌}
use mathlib.Core.List.{List, []}
use native.Mathlib.Nat.{min-le_left}
use native.Mathlib.Omega.{arith}
use lib.Dec.{eqb}
use lib.ListN.{length, get_or}
use Rattle.lists.specs.Counting.{sum_over}
use Rattle.lists.proofs.Elements.{Every}
use Rattle.lists.proofs.Fronts.{put-taken}
use Rattle.lists.proofs.Tabulated.{get_or-tabulate}
use Rattle.text.specs.Letters.{letters}
use Rattle.text.proofs.Short.{joined_length, field-short, number_short}
use Rattle.words.proofs.Worded.{word_short}
use Rattle.units.specs.One.{one}
use Rattle.units.specs.Rounding.{down, up}
use Rattle.rules.specs.Breach.{refuse}
use Rattle.rules.specs.Refusals.{row_of}
use Rattle.rules.specs.declared.refusal.Refusal.{Refusal}
use Rattle.rules.specs.Limits.{most_joint_states}
use Rattle.answers.specs.Answered.{answered}
use Rattle.entries.specs.Entries.{class_borne, class_places, byte_values, entry_at}
use Rattle.entries.proofs.Entries.{entry-is, class-places}
use Rattle.model.specs.Listed.{Listed}
use Rattle.model.specs.Good.{Good}
use Rattle.model.specs.Model.{Model, components, paths_of, probability_table}
use Rattle.model.proofs.Listing.{paths-few}
use Rattle.model.proofs.Paths.{each-entry}
use Rattle.probability.specs.Bounds.{total}
use Rattle.probability.proofs.Most.{total-most}
use Rattle.indices.specs.Figures.{customers_sum}
use Rattle.indices.specs.Losses.{LossBounds}
use Rattle.indices.proofs.Ordering.{lower-most}
use Rattle.evaluation.specs.Bounds.{lower_of, upper_of, class_lowers, class_uppers, load_lowers, load_uppers}
use Rattle.evaluation.specs.Figures.{figures_by, model_figures}
use Rattle.evaluation.proofs.Bounding.{model-table}
use Rattle.evaluation.proofs.LossOrder.{model-losses, fewer-losses}
use Rattle.report_lines.specs.Classes.{classes_borne}
use Rattle.report_lines.specs.Figures.{figure_lines}
use Rattle.report_lines.specs.Paths.{path_lines}
use Rattle.report_lines.proofs.Borne.{borne-class, borne-most}
use Rattle.report_lines.proofs.Widths.{path-lines-short, class-lines-short, load-lines-short}
use Rattle.report_text.specs.Report.{report_bytes, refused_bytes, paths_text, classes_text, losses_text, model_text, refused_text}
use Rattle.report_text.proofs.Printed.{model-figures-short}
use Rattle.std.specs.Prelude.{Ok, Err}

-- ---- a refused study

pub refused-short : (n : ℕ) → n < byte_values → length (refused_text n) ≤ refused_bytes
unfolding refused_text sum_over
refused-short n byte = rw (joined_length _) (omega (arith, field-short 3 (omega arith) n (omega (arith, byte)), word_short n))

pub refused-fits : (refusal : Refusal) → length (refused_text (row_of refusal)) ≤ refused_bytes
refused-fits refusal = refused-short (row_of refusal) (small refusal)
  where
    small : (r : Refusal) → row_of r < byte_values
    small r = grind arith

pub ruleset refused_line = (refused-fits, put-taken)

-- ---- a model whose paths bear classes that are bytes

abbrev pub Borne : Model → Type 0
Borne m = Every (λ (entry : List ℕ). class_borne (components m) entry < class_places) [] (paths_of m)

-- each path bears the class of a joint state
pub borne-by-state : (m : Model) → Good m → ((x : List ℕ) → m.class x < class_places) → Borne m
borne-by-state m good classes i h = let e = each-entry m good i h in rw e.bears (classes e.joint)

-- and its class stands in the list
pub borne-listed : {m : Model} {paths : ℕ} {list : List ℕ} → Listed m paths list → ((i : ℕ) → get_or list i 0 < byte_values) → Borne m
borne-listed {m} {paths} {list} l bytes k h =
    let inside : k < paths = omega (arith, h, l.number) in
    let own : get_or (paths_of m) k [] ≡ entry_at (components m) list k = rw (← l.entries) (entry-is (components m) paths list k inside) in
    rw own (class-places (components m) k list bytes)

module _ (m : Model) (good : Good m) (borne : Borne m) where
  few : length (paths_of m) ≤ most_joint_states
  few = paths-few m good

  paths-short : length (path_lines (probability_table m) (components m) (paths_of m)) ≤ most_joint_states * 41
  paths-short =
      let short = path-lines-short (probability_table m) (components m) (paths_of m) (model-table m good) good.counts.few borne in
      omega (arith, short, few)

  lower-class : (c : ℕ) → c < class_places → get_or (class_lowers m) c 0 < 10 ^ 13
  lower-class c h =
      let most = total-most down (omega arith) (probability_table m) (model-table m good) (components m) (λ (class : ℕ). eqb class c) (paths_of m) in
      rw (get_or-tabulate (λ (c : ℕ). lower_of m (λ (class : ℕ). eqb class c)) class_places c 0 h) (omega (arith, most, few))

  upper-class : (c : ℕ) → c < class_places → get_or (class_uppers m) c 0 < 10 ^ 13
  upper-class c h =
      let most = min-le_left one (total up (probability_table m) (components m) (λ (class : ℕ). eqb class c) (paths_of m)) in
      rw (get_or-tabulate (λ (c : ℕ). upper_of m (λ (class : ℕ). eqb class c)) class_places c 0 h) (omega (arith, most))

  classes-short : length (classes_text m) ≤ class_places * 34
  unfolding classes_text
  classes-short =
      let n = components m in
      let classes = classes_borne n (paths_of m) in
      let short = class-lines-short classes (class_lowers m) (class_uppers m) (borne-class n (paths_of m)) lower-class upper-class in
      omega (arith, short, borne-most n (paths_of m))

  losses : LossBounds (load_lowers m) (load_uppers m) (length m.loads)
  losses = fewer-losses good.loads.few (model-losses m good)

  figures-short : length (figure_lines (figures_by (load_lowers m) (load_uppers m) m.loads)) ≤ 192
  unfolding figure_lines figures_by refuse answered
  figures-short = go (eqb (customers_sum m.loads) 0)
    where
      go : (b : Bool) → length (figure_lines (answered Err (refuse 19 b) (Ok (model_figures m)))) ≤ 192
      go true = omega (arith, number_short 2 (omega arith) (letters "INDICES") 19 (omega arith))
      go false = model-figures-short m.loads good.loads _ _ losses

  losses-short : length (losses_text m) ≤ 400
  unfolding losses_text sum_over
  losses-short =
      let lines = load-lines-short (load_lowers m) (load_uppers m) (length m.loads) good.loads.few (lower-most losses).most losses.uppers.most in
      rw (joined_length _) (omega (arith, lines, good.loads.few, figures-short))

  paths-text-short : length (paths_text m) ≤ most_joint_states * 41 + 16
  unfolding paths_text sum_over
  paths-text-short =
      let first = number_short 4 (omega arith) (letters "PATHS") (length (paths_of m)) (omega (arith, few)) in
      rw (joined_length _) (omega (arith, first, paths-short))

  pub model-short : length (model_text m) ≤ report_bytes
  unfolding model_text sum_over
  model-short = rw (joined_length _) (omega (arith, paths-text-short, classes-short, losses-short))

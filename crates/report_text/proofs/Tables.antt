-- The lines from tables that the code has filled are those from the tables that the report speaks of.
use Prim.Native.Nat.{ℕ, ◌≤◌}
use mathlib.Core.Path.{◌≡◌, sym, ap, ◌∙◌}
use mathlib.Core.List.{List}
use native.Mathlib.Omega.{arith}
use lib.ListN.{length, get_or, take}
use lib.Seq.{length-take-le}
use Rattle.lists.specs.Rows.{put}
use Rattle.lists.proofs.Fronts.{get_or-put, put-taken}
use Rattle.lists.proofs.Tabulated.{length-tabulate}
use Rattle.text.specs.Writing.{Wrote}
use Rattle.rules.specs.Limits.{most_loads}
use Rattle.study.specs.declared.Load.{Load}
use Rattle.entries.specs.Entries.{class_places, entries_of}
use Rattle.model.specs.Model.{Model, components, paths_of}
use Rattle.evaluation.specs.Bounds.{class_lowers, class_uppers, load_lowers, load_uppers}
use Rattle.evaluation.specs.Figures.{figures_by}
use Rattle.evaluation.specs.Losses.{LossesOf}
use Rattle.report_lines.specs.Classes.{classes_borne, class_lines}
use Rattle.report_lines.specs.Figures.{figure_lines}
use Rattle.report_lines.specs.Loads.{load_lines}
use Rattle.report_lines.proofs.Borne.{borne-class}
use Rattle.report_lines.proofs.Listed.{class-lines-alike}
use Rattle.report_text.specs.Report.{classes_text}
use Rattle.answers.specs.Answers.{FiguresAnswer}

-- bounds for each class
pub lowers-long : (m : Model) → length (class_lowers m) ≡ class_places
lowers-long m = length-tabulate _ class_places

pub uppers-long : (m : Model) → length (class_uppers m) ≡ class_places
uppers-long m = length-tabulate _ class_places

pub classes-are : (m : Model) (n paths : ℕ) (list : List ℕ) {number : ℕ} {borne lower upper : List ℕ} (d e f : List ℕ) → n ≡ components m → entries_of n paths list ≡ paths_of m
    → Wrote d 0 (classes_borne n (entries_of n paths list)) borne number → lower ≡ put e 0 (class_lowers m) → upper ≡ put f 0 (class_uppers m)
    → class_lines (take number borne) lower upper ≡ classes_text m
unfolding classes_text
classes-are m n paths list {number} {borne} {lower} {upper} d e f components-are entries-are wrote low high =
    let written = classes_borne n (entries_of n paths list) in
    let all = classes_borne (components m) (paths_of m) in
    let front = ap (take number) wrote.holds ∙ put-taken d written {n = number} (omega (arith, wrote.behind)) in
    let same : written ≡ all = (λ i. classes_borne (components-are i) (entries-are i)) in
    ap (λ (l : List ℕ). class_lines l lower upper) (front ∙ same)
    ∙ class-lines-alike all lower upper (class_lowers m) (class_uppers m) (borne-class (components m) (paths_of m))
    (λ c h. ap (λ (l : List ℕ). get_or l c 0) low ∙ get_or-put e (class_lowers m) c 0 (rw (lowers-long m) h))
    (λ c h. ap (λ (l : List ℕ). get_or l c 0) high ∙ get_or-put f (class_uppers m) c 0 (rw (uppers-long m) h))

module _ {m : Model} {lower upper : List ℕ} (losses : LossesOf m lower upper) where
  pub loads-are : (load : List Load) (loads : ℕ) → length load ≡ most_loads → loads ≤ most_loads
      → load_lines lower upper loads ≡ load_lines (load_lowers m) (load_uppers m) (length (take loads load))
  loads-are load loads places few =
      let number = sym (length-take-le loads load (omega (arith, places))) in
      λ i. load_lines (losses.lowers i) (losses.uppers i) (number i)

  pub figures-are : {answer : FiguresAnswer} (loads : List Load) → answer ≡ figures_by lower upper loads
      → figure_lines answer ≡ figure_lines (figures_by (load_lowers m) (load_uppers m) loads)
  figures-are loads e = ap figure_lines e ∙ (λ i. figure_lines (figures_by (losses.lowers i) (losses.uppers i) loads))

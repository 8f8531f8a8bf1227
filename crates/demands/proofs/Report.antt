-- The report says what the calls tell. What carries it: both are made of the paths of one model; a call that told values left that model's bounds in its
-- slices, and its paths in the buffer.
use Prim.Native.Nat.{ℕ, ◌<◌}
use mathlib.Core.Path.{◌≡◌, refl, sym, ap, ◌∙◌}
use mathlib.Core.List.{List, [], ◌∷◌, ◌++◌, map, append-nil, append_assoc}
use native.Mathlib.Omega.{arith}
use lib.Dec.{eqb}
use lib.ListN.{length, get_or, length-map}
use lib.Seq.{length-take-le}
use Rattle.lists.specs.Rows.{joined}
use Rattle.lists.specs.Tabulate.{tabulate}
use Rattle.lists.proofs.Maps.{get_or-map-inside}
use Rattle.lists.proofs.Tabulated.{get_or-tabulate, length-tabulate, tabulated, tabulate-alike}
use Rattle.text.specs.Letters.{letters}
use Rattle.text.specs.Lines.{number_line, item_line}
use Rattle.units.specs.Rounding.{down, up}
use Rattle.rules.specs.Limits.{most_loads}
use Rattle.study.specs.declared.Study.{Study}
use Rattle.study.specs.Places.{Shaped}
use Rattle.soundness.specs.Sound.{Sound}
use Rattle.soundness.proofs.Ranges.{loads-most}
use Rattle.answers.specs.Told.{count_told, outcome_told, bounds_told, listing_told}
use Rattle.answers.proofs.Answered.{filled-front}
use Rattle.answers.proofs.Told.{done-told}
use Rattle.entries.specs.Entries.{class_borne, class_places}
use Rattle.opening.specs.Opening.{opened}
use Rattle.opening.proofs.Opened.Study.{opened-sound, opened-shaped}
use Rattle.opening.proofs.Taken.Study.{longest-study}
use Rattle.model.specs.Model.{Model, components, paths_of, probability_table}
use Rattle.probability.specs.Bounds.{path_bound}
use Rattle.probability.specs.Totals.{path_bounds, lower_loss, upper_loss}
use Rattle.meaning.specs.Meaning.{by_gates, model_of}
use Rattle.evaluation.specs.Bounds.{lower_of, upper_of, path_lowers, path_uppers, class_lowers, class_uppers, load_lowers, load_uppers}
use Rattle.report_lines.specs.Classes.{classes_borne, class_lines}
use Rattle.report_lines.specs.Figures.{figure_lines}
use Rattle.report_lines.specs.Loads.{load_line, load_lines}
use Rattle.report_lines.specs.Paths.{entry_line, path_line, path_lines}
use Rattle.report_lines.proofs.Borne.{borne-class}
use Rattle.report_lines.proofs.Listed.{class-lines-alike}
use Rattle.report_text.specs.Report.{paths_text, classes_text, losses_text, model_text, text_by, report_text}
use Rattle.report_text.proofs.Longest
use Rattle.report_text.proofs.Opened.{text-done}
use Rattle.path_calls.specs.Bounds.{pair_breach}
use Rattle.demands.specs.Calls.{path_bounds as for_paths, load_bounds, call_told}
use Rattle.demands.specs.Listed.{paths_in}
use Rattle.demands.specs.Report.{Slices, Asked, path_said, classes_said, load_said, text_said, ReportSays, ReportFits, InputCut}
use Rattle.demands.proofs.Bounds.{classes-left, lowers-long, uppers-long}
use Rattle.demands.proofs.Finished.{finished}
use Rattle.demands.proofs.Given.{the-list, the-paths, the-classes, a-load, the-figures}
use Rattle.demands.proofs.ListsEqual.{call-holds}
use Rattle.demands.proofs.Paths.{are-paths}
use Rattle.answers.specs.Answers.{BoundsAnswer, StudyAnswer}

-- ---- the lines, one kind after the other

module _ (t : Study) (is_sound : Sound t) (shaped : Shaped t) (p : ℕ) (lent : Slices) (asked : Asked t p lent) where
  abbrev m : Model
  m = model_of by_gates t

  number : p ≡ length (paths_of m)
  number = (call-holds by_gates t lent.buffer p asked.listed).number

  same-paths : paths_of m ≡ paths_in by_gates t lent.buffer p
  same-paths = are-paths by_gates t lent.buffer p asked.listed

  path-line : (k : ℕ) → k < p → path_line (probability_table m) (components m) (get_or (paths_of m) k []) ≡ path_said t p lent k
  unfolding path_line path_bounds pair_breach model_of
  path-line k h =
      let inside : k < length (paths_of m) = omega (arith, number) in
      let none = (finished (for_paths by_gates lent.lower lent.upper) t (p ∷ []) asked.bounded).none in
      let entry = ap (λ (l : List (List ℕ)). get_or l k []) same-paths in
      let low =
      filled-front _ (path_lowers m) lent.lower none k (omega (arith, lowers-long m, inside))
      ∙ get_or-map-inside (path_bound down (probability_table m) (components m)) (paths_of m) k [] 0 inside in
      let high =
      filled-front _ (path_uppers m) lent.upper none k (omega (arith, uppers-long m, inside))
      ∙ get_or-map-inside (path_bound up (probability_table m) (components m)) (paths_of m) k [] 0 inside in
      λ i. entry_line (components m) (entry i) (class_borne (components m) (entry i)) (sym low i) (sym high i)

  paths-said : path_lines (probability_table m) (components m) (paths_of m) ≡ joined (tabulate (path_said t p lent) p)
  unfolding path_lines
  paths-said =
      let line = path_line (probability_table m) (components m) in
      ap joined
      (tabulated (path_said t p lent) p (map line (paths_of m)) [] (length-map (paths_of m) line ∙ sym number)
      (λ k h. get_or-map-inside line (paths_of m) k [] [] (omega (arith, number)) ∙ path-line k h))

  classes-said : classes_text m ≡ classes_said t p lent
  unfolding classes_text model_of
  classes-said =
      let left = classes-left by_gates t lent.class_lower lent.class_upper asked.classed in
      let paths = paths_in by_gates t lent.buffer p in
      ap (λ (l : List (List ℕ)). class_lines (classes_borne (components m) l) (class_lowers m) (class_uppers m)) same-paths
      ∙ class-lines-alike (classes_borne (components m) paths) (class_lowers m) (class_uppers m) _ _ (borne-class (components m) paths)
      (λ c h. sym (left c h).lowers) (λ c h. sym (left c h).uppers)

  load_line_lem : (j : ℕ) → j < t.loads → load_line (load_lowers m) (load_uppers m) j ≡ load_said j (call_told (load_bounds by_gates j) t)
  unfolding load_line load_said
  load_line_lem j h =
      let inside : j < most_loads = omega (arith, h, loads-most t is_sound) in
      let low = get_or-tabulate (lower_loss (probability_table m) (components m) (paths_of m)) most_loads j 0 inside in
      let high = get_or-tabulate (upper_loss (probability_table m) (components m) (paths_of m)) most_loads j 0 inside in
      (λ i. item_line (letters "L") j (low i) (high i))
      ∙ ap (λ (answer : BoundsAnswer). load_said j (bounds_told answer)) (sym (a-load by_gates t is_sound refl j h))

  loads-said : load_lines (load_lowers m) (load_uppers m) (length m.loads)
      ≡ joined (tabulate (λ (j : ℕ). load_said j (call_told (load_bounds by_gates j) t)) t.loads)
  unfolding load_lines model_of
  loads-said =
      ap (λ (n : ℕ). joined (tabulate (load_line (load_lowers m) (load_uppers m)) n))
      (length-take-le t.loads t.load (omega (arith, shaped.loads, loads-most t is_sound)))
      ∙ ap joined (tabulate-alike _ _ t.loads load_line_lem)

  -- the number of paths and their lines stand in one text, and so do the loads and the figures
  flat : (a b c l f : List ℕ) → joined (joined (a ∷ b ∷ []) ∷ c ∷ joined (l ∷ f ∷ []) ∷ []) ≡ joined (a ∷ b ∷ c ∷ l ∷ f ∷ [])
  unfolding joined
  flat a b c l f =
      ap (λ (r : List ℕ). (a ++ (b ++ [])) ++ (c ++ r)) (append-nil (l ++ (f ++ [])))
      ∙ ap (λ (r : List ℕ). (a ++ r) ++ (c ++ (l ++ (f ++ [])))) (append-nil b)
      ∙ append_assoc a b (c ++ (l ++ (f ++ [])))

  text-said : model_text m ≡ text_said t p lent
  unfolding model_text paths_text losses_text
  text-said =
      let figures = ap figure_lines (sym (the-figures by_gates t is_sound refl)) in
      (λ i.
      joined
      (joined (number_line (letters "PATHS") (sym number i) ∷ paths-said i ∷ []) ∷ classes-said i ∷ joined (loads-said i ∷ figures i ∷ []) ∷ []))
      ∙ flat _ _ _ _ _

-- ---- the claims

pub report-says : ReportSays
report-says =
    record {
      says =
          λ bytes p lent done asked.
          sym (text-done bytes refl (done-told _ done))
          ∙ text-said (opened bytes).study (opened-sound bytes done) (opened-shaped bytes) p lent asked;
      askable =
          λ t s.
          let m = model_of by_gates t in
          record {
            listed = ap listing_told ((the-list by_gates t s refl).answer (joined (paths_of m)) (omega arith));
            bounded =
                ap count_told
                ((the-paths by_gates t s refl).answered (path_lowers m) (path_uppers m) (omega (arith, lowers-long m)) (omega (arith, uppers-long m)));
            classed =
                ap outcome_told
                ((the-classes by_gates t s refl).answered (class_lowers m) (class_uppers m)
                (omega (arith, length-tabulate (λ (c : ℕ). lower_of m (λ (class : ℕ). eqb class c)) class_places))
                (omega (arith, length-tabulate (λ (c : ℕ). upper_of m (λ (class : ℕ). eqb class c)) class_places)));
          };
    }

pub report-fits : ReportFits
report-fits = Rattle.report_text.proofs.Longest.report-fits

-- a report goes by what opening answers, so what decides the one decides the other
pub input-cut : InputCut
unfolding report_text
input-cut bytes = ap (λ (a : StudyAnswer). text_by a.outcome a.study) (longest-study.decides bytes)

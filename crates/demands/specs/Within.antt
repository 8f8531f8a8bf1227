-- Demand 2, what bounds and figures enclose: the exact probabilities of paths, classes and losses, each within its
-- distance, and the exact quotients. Of every good model.
use Rattle.std.specs.Prelude.{ℕ, ◌+◌, ◌<◌, ◌≤◌, ◌≡◌, true, false, List, [], eqb, length, get_or}
use Rattle.lists.specs.Bits.{bit}
use Rattle.units.specs.Within.{Within}
use Rattle.study.specs.declared.Load.{Load}
use Rattle.study.specs.Absent.{absent_load}
use Rattle.units.specs.declared.bounds.Enclosure.{Enclosure}
use Rattle.answers.specs.declared.figures.Figures.{Figures}
use Rattle.entries.specs.Entries.{class_places}
use Rattle.paths.specs.Words.{fits}
use Rattle.model.specs.Good.{Good}
use Rattle.model.specs.Model.{Model, components, paths_of}
use Rattle.accuracy.specs.Accuracy.{exact_of, whole_of, path_distance, total_distance}
use Rattle.indices.specs.Figures.{customers_sum, loss_sum, minutes_sum}
use Rattle.indices.specs.Enclosed.{EnclosesPerCustomer, EnclosesPerInterruption}
use Rattle.indices.specs.Parts.{short, sustained, every}
use Rattle.evaluation.specs.Bounds.{path_lowers, path_uppers, class_lowers, class_uppers}
use Rattle.evaluation.specs.Figures.{model_figures}
use Rattle.loss_calls.specs.Bounds.{loss_of}

-- Two numbers are bounds of an entry: they enclose the exact probability of the joint states that fit it, and neither
-- is farther from it than one unit for each settled state beyond the first.
abbrev pub EntryWithin : Model → List ℕ → ℕ → ℕ → Type 0
EntryWithin m entry lower upper =
    Within lower upper (path_distance (components m) entry) (exact_of m (λ (x : List ℕ). fits x entry)) (whole_of m)

-- They are bounds of path i.
abbrev pub PathWithin : Model → ℕ → ℕ → ℕ → Type 0
PathWithin m i lower upper = EntryWithin m (get_or (paths_of m) i []) lower upper

-- They are bounds of class c: they enclose the exact probability of its joint states, with that distance for each
-- path added.
abbrev pub ClassWithin : Model → ℕ → ℕ → ℕ → Type 0
ClassWithin m c lower upper =
    Within lower upper (total_distance (components m) (λ (class : ℕ). eqb class c) (paths_of m))
    (exact_of m (λ (x : List ℕ). eqb (m.class x) c)) (whole_of m)

-- They enclose an exact number of the model's whole, with the distance of the paths on which load j is lost.
abbrev pub LossesWithinOf : Model → ℕ → ℕ → ℕ → ℕ → Type 0
LossesWithinOf m j lower upper exactly =
    Within lower upper (total_distance (components m) (λ (class : ℕ). bit class j) (paths_of m)) exactly (whole_of m)

-- the exact probability that load j is lost
abbrev pub exact_lost : Model → ℕ → ℕ
exact_lost m j = exact_of m (λ (x : List ℕ). bit (m.class x) j)

-- They are bounds for the loss of load j, likewise.
abbrev pub LossWithin : Model → ℕ → ℕ → ℕ → Type 0
LossWithin m j lower upper = LossesWithinOf m j lower upper (exact_lost m j)

-- Two bounds enclose a sum over the exact probabilities for each customer served: those of all loads are.
abbrev pub EnclosesPerServed : Model → Enclosure → ((ℕ → ℕ) → List Load → ℕ) → Type 0
EnclosesPerServed m bounds sum_of =
    EnclosesPerCustomer bounds (customers_sum m.loads) sum_of (exact_lost m) (whole_of m) m.loads

-- Figures enclose the quotients of the published formulas, over the exact probabilities: SAIFI, SAIDI and, wherever
-- it is stated, CAIDI over the loads with more than five minutes to restore, MAIFI over the short ones.
pub record FiguresEnclose (m : Model) (figures : Figures) : Type 0 where
  pub saifi_encloses : EnclosesPerServed m figures.saifi (loss_sum sustained)
  pub saidi_encloses : EnclosesPerServed m figures.saidi (minutes_sum sustained)
  pub caidi_encloses : EnclosesPerInterruption figures.caidi sustained (exact_lost m) m.loads
  pub maifi_encloses : EnclosesPerServed m figures.maifi (loss_sum short)

-- A load is short by its restore time alone: five minutes or less, and so where none is stated.
pub record ShortByMinutes : Type 0 where
  pub short_load : (l : Load) → l.minutes ≤ 5 → short l ≡ true
  pub other_load : (l : Load) → 5 < l.minutes → short l ≡ false
  pub none_stated : short absent_load ≡ true

-- Each load counts on one side and only one, so that the sums of P × C behind SAIFI and MAIFI make the sum over all
-- loads.
abbrev pub LossesParted : Type 0
LossesParted =
    (p : ℕ → ℕ) (loads : List Load) → loss_sum sustained p loads + loss_sum short p loads ≡ loss_sum every p loads

-- ---- of every good model

abbrev pub PathsWithin : Type 0
PathsWithin =
    (m : Model) → Good m → (i : ℕ) → i < length (paths_of m)
    → PathWithin m i (get_or (path_lowers m) i 0) (get_or (path_uppers m) i 0)

abbrev pub ClassesWithin : Type 0
ClassesWithin =
    (m : Model) → Good m → (c : ℕ) → c < class_places
    → ClassWithin m c (get_or (class_lowers m) c 0) (get_or (class_uppers m) c 0)

abbrev pub LossesWithin : Type 0
LossesWithin = (m : Model) → Good m → (j : ℕ) → LossWithin m j (loss_of m j).lower (loss_of m j).upper

abbrev pub ModelFiguresEnclose : Type 0
ModelFiguresEnclose = (m : Model) → Good m → 0 < customers_sum m.loads → FiguresEnclose m (model_figures m)

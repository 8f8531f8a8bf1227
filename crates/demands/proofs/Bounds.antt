-- The bounds of paths, classes and loads enclose the exact probabilities: those of any good model do, and so do those that a call answered, since it
-- answers only of a sound study, whose model is good, and fills the places with that model's bounds.
use Prim.Native.Nat.{ℕ, ◌<◌}
use mathlib.Core.Path.{◌≡◌, sym, subst, ◌∙◌}
use mathlib.Core.List.{List, [], ◌∷◌}
use native.Mathlib.Omega.{arith}
use lib.Dec.{eqb}
use lib.ListN.{length, get_or, length-map}
use Rattle.lists.specs.Bits.{bit}
use Rattle.lists.proofs.Maps.{get_or-map-inside}
use Rattle.lists.proofs.Tabulated.{get_or-tabulate, length-tabulate}
use Rattle.units.specs.Rounding.{down, up}
use Rattle.study.specs.declared.Study.{Study}
use Rattle.answers.specs.Told.{result, pair_values}
use Rattle.answers.proofs.Answered.{filled-front}
use Rattle.entries.specs.Entries.{class_places}
use Rattle.model.specs.Model.{Model, components, paths_of, probability_table}
use Rattle.probability.specs.Bounds.{path_bound}
use Rattle.probability.specs.Totals.{path_bounds}
use Rattle.accuracy.proofs.PathBounds.{path-within}
use Rattle.accuracy.proofs.Totals.{total-within}
use Rattle.meaning.specs.Meaning.{Meaning, model_of}
use Rattle.meaning.proofs.Tables.{meant-good}
use Rattle.evaluation.specs.Bounds.{lower_of, upper_of, path_lowers, path_uppers, class_lowers, class_uppers}
use Rattle.path_calls.specs.Bounds.{pair_breach, lower_of_paths, upper_of_paths, lower_of_classes, upper_of_classes}
use Rattle.loss_calls.specs.Bounds.{loss_of}
use Rattle.demands.specs.Calls.{path_bounds as for_paths, class_bounds as for_classes, load_bounds as for_load, call_told}
use Rattle.demands.specs.Within.{EntryWithin, PathsWithin, ClassesWithin, LossesWithin}
use Rattle.demands.specs.Demand2.{SameAt, PathBoundsAnswered, PathBoundsOfList, ClassBoundsAnswered, ClassBoundsAlike, LoadBoundsAnswered}
use Rattle.demands.proofs.Finished.{finished}
use Rattle.demands.proofs.ListsEqual.{call-holds}
use Rattle.demands.proofs.Paths.{are-paths}

-- ---- any good model

pub paths-within : PathsWithin
unfolding path_bounds
paths-within m good i h =
    rw (
      get_or-map-inside (path_bound down (probability_table m) (components m)) (paths_of m) i [] 0 h,
      get_or-map-inside (path_bound up (probability_table m) (components m)) (paths_of m) i [] 0 h,
    )
    (path-within m good i h)

pub classes-within : ClassesWithin
classes-within m good c h =
    rw (
      get_or-tabulate (λ (c : ℕ). lower_of m (λ (class : ℕ). eqb class c)) class_places c 0 h,
      get_or-tabulate (λ (c : ℕ). upper_of m (λ (class : ℕ). eqb class c)) class_places c 0 h,
    )
    (total-within m good (λ (class : ℕ). eqb class c))

pub losses-within : LossesWithin
losses-within m good j = total-within m good (λ (class : ℕ). bit class j)

-- ---- what a call answered

pub lowers-long : (m : Model) → length (path_lowers m) ≡ length (paths_of m)
unfolding path_bounds
lowers-long m = length-map (paths_of m) (path_bound down (probability_table m) (components m))

pub uppers-long : (m : Model) → length (path_uppers m) ≡ length (paths_of m)
unfolding path_bounds
uppers-long m = length-map (paths_of m) (path_bound up (probability_table m) (components m))

pub path-bounds-answered : PathBoundsAnswered
unfolding pair_breach
path-bounds-answered meaning t lower upper n answer i h =
    let done = finished (for_paths meaning lower upper) t (n ∷ []) answer in
    let m = model_of meaning t in
    let count : length (paths_of m) ≡ n = cc in
    rw (
      filled-front _ (path_lowers m) lower done.none i (omega (arith, lowers-long m, count)),
      filled-front _ (path_uppers m) upper done.none i (omega (arith, uppers-long m, count)),
    )
    (paths-within m (meant-good meaning t done.is_sound) i (omega (arith, count)))

-- and those bounds are of the list that another call left
pub path-bounds-of-list : PathBoundsOfList
path-bounds-of-list m t d p lower upper n listed bounded =
    let count : length (paths_of (model_of m t)) ≡ n = cc (finished (for_paths m lower upper) t (n ∷ []) bounded).are in
    record {
      number = sym count ∙ sym (call-holds m t d p listed).number;
      within =
          λ i h.
          subst
          (λ (l : List (List ℕ)). EntryWithin (model_of m t) (get_or l i []) (get_or (lower_of_paths m t lower upper) i 0) (get_or (upper_of_paths m t lower upper) i 0))
          (are-paths m t d p listed) (path-bounds-answered m t lower upper n bounded i h);
    }

-- the places of classes then hold the bounds of the model
pub classes-left : (meaning : Meaning) (t : Study) (lower upper : List ℕ) → call_told (for_classes meaning lower upper) t ≡ result [] → (c : ℕ) → c < class_places
    → SameAt c (lower_of_classes meaning t lower upper) (upper_of_classes meaning t lower upper) (class_lowers (model_of meaning t)) (class_uppers (model_of meaning t))
unfolding pair_breach
classes-left meaning t lower upper answer c h =
    let none = (finished (for_classes meaning lower upper) t [] answer).none in
    let m = model_of meaning t in
    record {
      lowers =
          filled-front _ (class_lowers m) lower none c (omega (arith, length-tabulate (λ (c : ℕ). lower_of m (λ (class : ℕ). eqb class c)) class_places));
      uppers =
          filled-front _ (class_uppers m) upper none c (omega (arith, length-tabulate (λ (c : ℕ). upper_of m (λ (class : ℕ). eqb class c)) class_places));
    }

pub class-bounds-answered : ClassBoundsAnswered
class-bounds-answered meaning t lower upper answer c h =
    let done = finished (for_classes meaning lower upper) t [] answer in
    let left = classes-left meaning t lower upper answer c h in
    rw (left.lowers, left.uppers) (classes-within (model_of meaning t) (meant-good meaning t done.is_sound) c h)

pub class-bounds-alike : ClassBoundsAlike
class-bounds-alike meaning t lower upper lower' upper' answer answer' c h =
    let left = classes-left meaning t lower upper answer c h in
    let left' = classes-left meaning t lower' upper' answer' c h in
    record { lowers = left.lowers ∙ sym left'.lowers; uppers = left.uppers ∙ sym left'.uppers }

pub load-bounds-answered : LoadBoundsAnswered
load-bounds-answered meaning t j pair answer =
    let done = finished (for_load meaning j) t (pair_values pair) answer in
    let m = model_of meaning t in
    let lower : (loss_of m j).lower ≡ pair.lower = cc in
    let upper : (loss_of m j).upper ≡ pair.upper = cc in
    rw (← lower, ← upper) (losses-within m (meant-good meaning t done.is_sound) j)

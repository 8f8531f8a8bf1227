-- Demand 2, of every answer that is not a refusal, by gates or by a drawn tree: the bounds that a call told enclose
-- the exact probabilities, and the figures the exact quotients.
use Rattle.std.specs.Prelude.{ℕ, ◌<◌, ◌≡◌, Bool, List, [], ◌∷◌, get_or}
use Rattle.study.specs.declared.Study.{Study}
use Rattle.answers.specs.Told.{result, pair_values, figure_values}
use Rattle.units.specs.declared.bounds.Enclosure.{Enclosure}
use Rattle.answers.specs.declared.figures.Figures.{Figures}
use Rattle.entries.specs.Entries.{class_places}
use Rattle.accuracy.specs.Accuracy.{exact_of}
use Rattle.meaning.specs.Meaning.{Meaning, meaning_fault, model_of}
use Rattle.path_calls.specs.Bounds.{lower_of_paths, upper_of_paths, lower_of_classes, upper_of_classes}
use Rattle.demands.specs.Calls.{path_bounds, class_bounds, load_bounds, figures, call_told}
use Rattle.demands.specs.Listed.{ListedBy, path_in}
use Rattle.demands.specs.Losses.{SaysLoss}
use Rattle.demands.specs.Within.{EntryWithin, PathWithin, ClassWithin, exact_lost, LossesWithinOf, LossWithin}
use Rattle.demands.specs.Within.{FiguresEnclose}

-- The call for path bounds tells n: the two places written for each of the n paths are its bounds.
abbrev pub PathBoundsAnswered : Type 0
PathBoundsAnswered =
    (m : Meaning) (t : Study) (lower upper : List ℕ) (n : ℕ) → call_told (path_bounds m lower upper) t ≡ result (n ∷ [])
    → (i : ℕ) → i < n
    → PathWithin (model_of m t) i (get_or (lower_of_paths m t lower upper) i 0) (get_or (upper_of_paths m t lower upper) i 0)

-- n bounds in two slices are those of the p paths in a buffer: as many, and places i of both slices have the bounds
-- of entry i
pub record BoundsOfList (m : Meaning) (t : Study) (d : List ℕ) (p : ℕ) (lower upper : List ℕ) (n : ℕ) : Type 0 where
  pub number : n ≡ p
  pub within : (i : ℕ) → i < n
      → EntryWithin (model_of m t) (path_in m t d p i)
      (get_or (lower_of_paths m t lower upper) i 0) (get_or (upper_of_paths m t lower upper) i 0)

-- So the bounds that one call told are those of the list that another told, whatever either was lent.
abbrev pub PathBoundsOfList : Type 0
PathBoundsOfList =
    (m : Meaning) (t : Study) (d : List ℕ) (p : ℕ) (lower upper : List ℕ) (n : ℕ) → ListedBy m t d p
    → call_told (path_bounds m lower upper) t ≡ result (n ∷ []) → BoundsOfList m t d p lower upper n

-- The call for class bounds tells that it is done: the two places of each class are its bounds.
abbrev pub ClassBoundsAnswered : Type 0
ClassBoundsAnswered =
    (m : Meaning) (t : Study) (lower upper : List ℕ) → call_told (class_bounds m lower upper) t ≡ result []
    → (c : ℕ) → c < class_places
    → ClassWithin (model_of m t) c
    (get_or (lower_of_classes m t lower upper) c 0) (get_or (upper_of_classes m t lower upper) c 0)

-- the same stands at place k of both slices of a pair
pub record SameAt (k : ℕ) (lower upper lower' upper' : List ℕ) : Type 0 where
  pub lowers : get_or lower k 0 ≡ get_or lower' k 0
  pub uppers : get_or upper k 0 ≡ get_or upper' k 0

-- What stood in the slices before does not matter: two pairs that the call is lent for a study, one full of the
-- largest number and one cleared, say, end alike in the places of classes.
abbrev pub ClassBoundsAlike : Type 0
ClassBoundsAlike =
    (m : Meaning) (t : Study) (lower upper lower' upper' : List ℕ) → call_told (class_bounds m lower upper) t ≡ result []
    → call_told (class_bounds m lower' upper') t ≡ result [] → (c : ℕ) → c < class_places
    → SameAt c (lower_of_classes m t lower upper) (upper_of_classes m t lower upper) (lower_of_classes m t lower' upper') (upper_of_classes m t lower' upper')

-- The call for a load tells a pair: these are the bounds for its loss.
abbrev pub LoadBoundsAnswered : Type 0
LoadBoundsAnswered =
    (m : Meaning) (t : Study) (j : ℕ) (pair : Enclosure) → call_told (load_bounds m j) t ≡ result (pair_values pair)
    → LossWithin (model_of m t) j pair.lower pair.upper

-- The call for the figures tells them: all four enclose their quotients, CAIDI where it is stated.
abbrev pub FiguresAnswered : Type 0
FiguresAnswered =
    (m : Meaning) (t : Study) (values : Figures) → call_told (figures m) t ≡ result (figure_values values)
    → FiguresEnclose (model_of m t) values

-- ---- over what the loss gate or the leaf says

-- The exact probability that a load is lost is over the joint states in which its loss gate is true, or whose leaf
-- has its bit; and the pair that the call for a load told encloses that sum, over any test that says so.
pub record LossesMeant : Type 0 where
  pub exactly : (m : Meaning) (t : Study) (j : ℕ) → j < t.loads → meaning_fault m t ≡ 0 → (lost : List ℕ → Bool)
      → SaysLoss m t j lost
      → exact_lost (model_of m t) j ≡ exact_of (model_of m t) lost
  pub within : (m : Meaning) (t : Study) (j : ℕ) (pair : Enclosure)
      → call_told (load_bounds m j) t ≡ result (pair_values pair)
      → (lost : List ℕ → Bool) → SaysLoss m t j lost
      → LossesWithinOf (model_of m t) j pair.lower pair.upper (exact_of (model_of m t) lost)

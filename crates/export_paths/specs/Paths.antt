-- The calls for the paths and classes of the study that an image holds, by its gates or by a drawn tree: the list of
-- its paths, and bounds for each path and class.
use Rattle.std.specs.Prelude.{ℕ, ◌≡◌, List, ℤ}
use Rattle.answers.specs.Told.{outcome_told, listing_told, count_told}
use Rattle.meaning.specs.Meaning.{Meaning}
use Rattle.path_calls.specs.Bounds.{paths_bounded, lower_of_paths, upper_of_paths}
use Rattle.path_calls.specs.Bounds.{classes_bounded, lower_of_classes, upper_of_classes}
use Rattle.path_calls.specs.Listing.{paths_listed, buffer_listed}
use Rattle.study_image.specs.Image.{study_in}
use Rattle.export_answers.specs.Answers.{answered_by, count, done, FillsPair}

-- the calls for the list: what they answer, and what they leave of the buffer
pub record ListsPaths (m : Meaning) (study was buffer : List ℕ) (answer : ℤ) : Type 0 where
  pub answered : answer ≡ answered_by count (listing_told (paths_listed m (study_in study) was))
  pub listed : buffer ≡ buffer_listed m (study_in study) was

-- the calls for bounds of the paths
abbrev pub BoundsPaths : (m : Meaning) (study lower-was upper-was lower upper : List ℕ) → ℤ → Type 0
BoundsPaths m study lower-was upper-was =
    FillsPair
    (answered_by count (count_told (paths_bounded m (study_in study) lower-was upper-was)))
    (lower_of_paths m (study_in study) lower-was upper-was)
    (upper_of_paths m (study_in study) lower-was upper-was)

-- the calls for bounds of the classes
abbrev pub BoundsClasses : (m : Meaning) (study lower-was upper-was lower upper : List ℕ) → ℤ → Type 0
BoundsClasses m study lower-was upper-was =
    FillsPair
    (answered_by done (outcome_told (classes_bounded m (study_in study) lower-was upper-was)))
    (lower_of_classes m (study_in study) lower-was upper-was)
    (upper_of_classes m (study_in study) lower-was upper-was)

-- The calls for the losses of loads: bounds for a load of the study that an image holds, by its gates or by a drawn
-- tree, and the loads that a class loses.
use Rattle.std.specs.Prelude.{ℕ, ◌≡◌, List, ℤ, pos}
use Rattle.units.specs.declared.bounds.Enclosure.{Enclosure}
use Rattle.answers.specs.Told.{Told, bounds_told}
use Rattle.fault_tree.specs.Classes.{loads_lost}
use Rattle.meaning.specs.Meaning.{Meaning}
use Rattle.loss_calls.specs.Bounds.{load_bounded}
use Rattle.study_image.specs.Image.{study_in}
use Rattle.export_answers.specs.Answers.{answered_by, done, left_by}

-- a pair of bounds that is told, in two numbers: what is answered, and what is left in them
pub record TakesPair (told : Told) (was left : Enclosure) (answer : ℤ) : Type 0 where
  pub answered : answer ≡ answered_by done told
  pub pair_left : left ≡ left_by told was

-- the calls for a load
abbrev pub BoundsLoad : (m : Meaning) (study : List ℕ) (load : ℕ) (was left : Enclosure) → ℤ → Type 0
BoundsLoad m study load = TakesPair (bounds_told (load_bounded m (study_in study) load))

-- the call for the loads of a class
abbrev pub CountsLost : (class : ℕ) → ℤ → Type 0
CountsLost class answer = answer ≡ pos (loads_lost class)

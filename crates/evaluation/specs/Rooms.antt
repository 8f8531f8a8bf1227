-- Bounds worked out of a model go to two lent slices, one for lower and one for upper bounds: when they are refused,
-- and what is answered and left.
use Rattle.std.specs.Prelude.{ℕ, ◌≡◌, List, [], ◌∷◌, length}
use Rattle.rules.specs.Breach.{first_breach}
use Rattle.rules.specs.Table.{room_fault}
use Rattle.answers.specs.Answered.{answered, filled}
use Rattle.entries.specs.Entries.{class_places}
use Rattle.model.specs.Model.{Model, paths_of}
use Rattle.evaluation.specs.Bounds.{path_lowers, path_uppers, class_lowers, class_uppers}
use Rattle.std.specs.Prelude.{Ok, Err}
use Rattle.answers.specs.Answers.{CountAnswer, Outcome, finished}

-- 18 where either slice has fewer places than each needs
unfoldable pub pair_fault : ℕ → ℕ → ℕ → ℕ
pair_fault need lower upper = first_breach (room_fault need lower ∷ room_fault need upper ∷ [])

abbrev pub pair_room : ℕ → List ℕ → List ℕ → ℕ
pair_room need lower upper = pair_fault need (length lower) (length upper)

-- a place for each path
abbrev pub paths_room : Model → List ℕ → List ℕ → ℕ
paths_room m lower upper = pair_room (length (paths_of m)) lower upper

-- what is answered, and what each slice is left with: filled where there is no breach, and otherwise as it was
pub record PairPut {A : Type 0} (refused : ℕ → A) (breach : ℕ) (done : A)
    (lowers uppers lower-was upper-was lower upper : List ℕ) (answer : A) : Type 0 where
  pub answer_is : answer ≡ answered refused breach done
  pub lower_is : lower ≡ filled breach lowers lower-was
  pub upper_is : upper ≡ filled breach uppers upper-was

-- the bounds of paths, with their number for an answer
abbrev pub PathBoundsPut : Model → (lower-was upper-was lower upper : List ℕ) → CountAnswer → Type 0
PathBoundsPut m lower-was upper-was =
    PairPut Err (paths_room m lower-was upper-was) (Ok (length (paths_of m)))
    (path_lowers m) (path_uppers m) lower-was upper-was

-- the bounds of classes
abbrev pub ClassBoundsPut : Model → (lower-was upper-was lower upper : List ℕ) → Outcome → Type 0
ClassBoundsPut m lower-was upper-was =
    PairPut Err (pair_room class_places lower-was upper-was) finished (class_lowers m) (class_uppers m) lower-was upper-was

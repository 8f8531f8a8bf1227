-- What an answer tells, by cases: a result with its values, or a refusal with its number in the refusal table. Every
-- enum that a call answers has its line here, and whoever speaks of the number or the values of an answer cites it.
use Rattle.std.specs.Prelude.{ℕ, List, [], ◌∷◌, ◌++◌}
use Rattle.answers.specs.Answered.{answered}
use Rattle.units.specs.declared.bounds.Enclosure.{Enclosure}
use Rattle.answers.specs.declared.chances.Chances.{Chances as ChanceBounds}
use Rattle.answers.specs.declared.figures.Caidi.{Caidi}
use Rattle.answers.specs.declared.figures.Caidi.TheVariants.{Bounds as Stated, NotStated}
use Rattle.answers.specs.declared.figures.Figures.{Figures as FigureValues}
use Rattle.std.specs.Prelude.{Ok, Err}
use Rattle.answers.specs.Answers.{BoundsAnswer, CountAnswer, FiguresAnswer, Listing, Outcome, SurvivalAnswer, finished}

pub data Told : Type 0 where
  result : List ℕ → Told
  refusal : ℕ → Told

-- the number in the refusal table, 0 where the call finished with its result
abbrev pub number_told : Told → ℕ
number_told (result values) = 0
number_told (refusal n) = n

-- what a call with this first breach and these values tells
unfoldable pub tells : ℕ → List ℕ → Told
unfolding answered
tells breach values = answered refusal breach (result values)

-- ---- the values of a result, in the order of the papers

abbrev pub pair_values : Enclosure → List ℕ
pair_values pair = pair.lower ∷ pair.upper ∷ []

-- none where CAIDI is not stated
abbrev pub caidi_values : Caidi → List ℕ
caidi_values (Stated pair) = pair_values pair
caidi_values NotStated = []

abbrev pub figure_values : FigureValues → List ℕ
figure_values figures = pair_values figures.saifi ++ (pair_values figures.saidi ++ (caidi_values figures.caidi ++ pair_values figures.maifi))

abbrev pub chance_values : ChanceBounds → List ℕ
chance_values chances = pair_values chances.survival ++ pair_values chances.failure

-- ---- the answers

-- of opening, the edits and the call for class bounds: only that it is done
abbrev pub outcome_told : Outcome → Told
outcome_told (Ok a) = result []
outcome_told (Err n) = refusal n

-- of the call for the list: the number of paths
abbrev pub listing_told : Listing → Told
listing_told (Ok count) = result (count.paths ∷ [])
listing_told (Err n) = refusal n

-- of the calls for path bounds and for a text: the number of paths, or of bytes
abbrev pub count_told : CountAnswer → Told
count_told (Ok n) = result (n ∷ [])
count_told (Err n) = refusal n

-- of the call for a load: the pair itself
abbrev pub bounds_told : BoundsAnswer → Told
bounds_told (Ok pair) = result (pair_values pair)
bounds_told (Err n) = refusal n

-- of the call for the figures, what it tells of one or of all: the values that are wanted of them
abbrev pub figures_told_of : (FigureValues → List ℕ) → FiguresAnswer → Told
figures_told_of wanted (Ok figures) = result (wanted figures)
figures_told_of wanted (Err n) = refusal n

-- a pair for each that is stated
abbrev pub figures_told : FiguresAnswer → Told
figures_told = figures_told_of figure_values

-- of the call for the chance of surviving, likewise
abbrev pub survival_told_of : (ChanceBounds → List ℕ) → SurvivalAnswer → Told
survival_told_of wanted (Ok chances) = result (wanted chances)
survival_told_of wanted (Err n) = refusal n

-- its pair, then that of failure
abbrev pub survival_told : SurvivalAnswer → Told
survival_told = survival_told_of chance_values

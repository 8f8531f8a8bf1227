-- Drawn trees worked by hand, as rows of data, and the one claim about them: each row is what the calls answer and write, by the definitions that their
-- contracts cite.
use Rattle.std.specs.Prelude.{ℕ, ◌≡◌, List, [], ◌∷◌}
use Rattle.units.specs.One.{one}
use Rattle.study.specs.declared.Study.{Study}
use Rattle.answers.specs.declared.figures.Caidi.TheVariants.{Bounds, NotStated}
use Rattle.entries.specs.Entries.{blank_mark, entry}
use Rattle.opening.specs.Opening.{opened}
use Rattle.meaning.specs.Meaning.{by_tree}
use Rattle.path_calls.specs.Listing.{paths_listed}
use Rattle.loss_calls.specs.Figures.{figures_given}
use Rattle.demands.specs.CaseA.{case_a}
use Rattle.demands.specs.WorkedExamples.{Results, results_are, at, figures_are, no_customers, case_a_opens, no_loss_gate_opens, Gives}
use Rattle.std.specs.Prelude.{Err}
use Rattle.answers.specs.Answers.{StudyAnswer}

-- what a tree beside a study comes to: results, or a refusal
pub data Comes : Type 0 where
  to : Results → Comes
  refused_by : ℕ → Comes

-- a row: the bytes of a study and what opening them answers, those of a tree beside it, and what they come to
pub record DrawnExample : Type 0 where
  pub bytes : List ℕ
  pub opening : StudyAnswer
  pub tree : List ℕ
  pub comes : Comes

-- beside case A
abbrev beside_a : List ℕ → Comes → DrawnExample
beside_a tree comes = record { bytes = case_a; opening = case_a_opens; tree = tree; comes = comes }

-- beside a study whose load has no loss gate
abbrev beside_c : List ℕ → Comes → DrawnExample
beside_c tree comes =
    record { bytes = 1 ∷ 1 ∷ 1 ∷ 0x00 ∷ 0x02 ∷ 1 ∷ 0 ∷ 2 ∷ 0x00 ∷ []; opening = no_loss_gate_opens; tree = tree; comes = comes }

-- what case A comes to by its gates
unfoldable pub like_case_a : Results
unfolding results_are
like_case_a =
    results_are (entry (0 ∷ 0 ∷ []) 0 ∷ entry (0 ∷ 1 ∷ []) 1 ∷ entry (1 ∷ blank_mark ∷ []) 1 ∷ [])
    (at 720_000_000 ∷ at 180_000_000 ∷ at 100_000_000 ∷ [])
    (at 720_000_000 ∷ at 280_000_000 ∷ [])
    (at 280_000_000 ∷ [])
    (figures_are (at 280_000_000) (at 16_800_000_000) (Bounds (at 60)) (at 0))

-- one path, all blank: the load is never lost, or always
unfoldable pub never_lost : Results
unfolding results_are
never_lost =
    results_are (entry (blank_mark ∷ blank_mark ∷ []) 0 ∷ []) (at one ∷ []) (at one ∷ []) (at 0 ∷ [])
    (figures_are (at 0) (at 0) NotStated (at 0))

unfoldable pub always_lost : Results
unfolding results_are
always_lost =
    results_are (entry (blank_mark ∷ blank_mark ∷ []) 1 ∷ []) (at one ∷ []) (at 0 ∷ at one ∷ []) (at one ∷ [])
    (figures_are (at one) (at 60_000_000_000) (Bounds (at 60)) (at 0))

-- lost where the leaf says so, in a state of probability 0
unfoldable pub lost_by_leaf : Results
unfolding results_are
lost_by_leaf = results_are (entry (0 ∷ []) 0 ∷ entry (1 ∷ []) 1 ∷ []) (at one ∷ at 0 ∷ []) (at one ∷ at 0 ∷ []) (at 0 ∷ []) no_customers

abbrev pub drawn_examples : List DrawnExample
drawn_examples =
    -- component 1 is asked first; where it is up, component 0
    beside_a (1 ∷ 0 ∷ 255 ∷ 0 ∷ 255 ∷ 1 ∷ 255 ∷ 1 ∷ []) (to like_case_a)
    -- component 1 stands on both branches of component 0, once for nothing
    ∷ beside_a (0 ∷ 1 ∷ 255 ∷ 0 ∷ 255 ∷ 1 ∷ 1 ∷ 255 ∷ 1 ∷ 255 ∷ 1 ∷ []) (to like_case_a)
    -- one leaf alone, and a tree that asks all and changes nothing
    ∷ beside_a (255 ∷ 0 ∷ []) (to never_lost)
    ∷ beside_a (0 ∷ 1 ∷ 255 ∷ 1 ∷ 255 ∷ 1 ∷ 1 ∷ 255 ∷ 1 ∷ 255 ∷ 1 ∷ []) (to always_lost)
    -- a load without a loss gate is lost where the leaf says so
    ∷ beside_c (0 ∷ 255 ∷ 0 ∷ 255 ∷ 1 ∷ []) (to lost_by_leaf)
    -- 20: a component that is not in the study; one that is asked above
    ∷ beside_a (2 ∷ []) (refused_by 20)
    ∷ beside_a (0 ∷ 0 ∷ []) (refused_by 20)
    -- 21: no bytes, an end inside a leaf and below a node, a byte behind the tree
    ∷ beside_a [] (refused_by 21)
    ∷ beside_a (255 ∷ []) (refused_by 21)
    ∷ beside_a (0 ∷ 255 ∷ 0 ∷ []) (refused_by 21)
    ∷ beside_a (255 ∷ 0 ∷ 0 ∷ []) (refused_by 21)
    -- 22: the bit of a second load, with and without bytes behind
    ∷ beside_a (255 ∷ 2 ∷ []) (refused_by 22)
    ∷ beside_a (255 ∷ 2 ∷ 0 ∷ []) (refused_by 22)
    ∷ []

-- the calls for the list and for the figures are refused by n, whatever is lent
pub record RefusedBy (t : Study) (tree : List ℕ) (n : ℕ) : Type 0 where
  pub list : (buffer : List ℕ) → paths_listed (by_tree tree) t buffer ≡ Err n
  pub figures : figures_given (by_tree tree) t ≡ Err n

abbrev pub ComesHolds : Study → List ℕ → Comes → Type 0
ComesHolds t tree (to r) = Gives (by_tree tree) t r
ComesHolds t tree (refused_by n) = RefusedBy t tree n

-- a row holds: opening its bytes answers so, and the calls on the study that was opened, with the tree beside it, come to that
pub record DrawnRowHolds (e : DrawnExample) : Type 0 where
  pub opening : opened e.bytes ≡ e.opening
  pub comes : ComesHolds e.opening.study e.tree e.comes

abbrev pub EachDrawnHolds : List DrawnExample → Type 0
EachDrawnHolds [] = Unit {0}
EachDrawnHolds (e ∷ es) = DrawnRowHolds e × EachDrawnHolds es

-- Each row holds.
abbrev pub DrawnExamples : Type 0
DrawnExamples = EachDrawnHolds drawn_examples

-- The lines of the figures, or the one that stands in their place.
use Rattle.std.specs.Prelude.{ℕ, List, [], ◌∷◌}
use Rattle.lists.specs.Rows.{joined}
use Rattle.text.specs.Letters.{letters}
use Rattle.text.specs.Lines.{number_line, bounds_line}
use Rattle.answers.specs.declared.figures.Caidi.{Caidi}
use Rattle.answers.specs.declared.figures.Caidi.TheVariants.{Bounds, NotStated}
use Rattle.answers.specs.declared.figures.Figures.{Figures as FigureValues}
use Rattle.std.specs.Prelude.{Ok, Err}
use Rattle.answers.specs.Answers.{FiguresAnswer}

unfoldable pub caidi_line : Caidi → List ℕ
caidi_line (Bounds b) = bounds_line (letters "CAIDI") b.lower b.upper
caidi_line NotStated = letters "CAIDI none\n"

unfoldable pub all_figures : FigureValues → List ℕ
all_figures f =
    joined
    (bounds_line (letters "SAIFI") f.saifi.lower f.saifi.upper
    ∷ bounds_line (letters "SAIDI") f.saidi.lower f.saidi.upper
    ∷ caidi_line f.caidi
    ∷ bounds_line (letters "MAIFI") f.maifi.lower f.maifi.upper
    ∷ [])

-- refusal 19 stands in the place of them all
unfoldable pub figure_lines : FiguresAnswer → List ℕ
figure_lines (Ok f) = all_figures f
figure_lines (Err n) = number_line (letters "INDICES") n

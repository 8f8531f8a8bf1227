-- The figures of a model, and what is answered where it has no customers.
use Rattle.std.specs.Prelude.{ℕ, List}
use Rattle.rules.specs.Table.{customers_fault}
use Rattle.study.specs.declared.Load.{Load}
use Rattle.answers.specs.Answered.{answered}
use Rattle.answers.specs.declared.figures.Figures.{Figures as FigureValues}
use Rattle.indices.specs.Figures.{customers_sum, figures_of}
use Rattle.model.specs.Model.{Model}
use Rattle.evaluation.specs.Bounds.{load_lowers, load_uppers}
use Rattle.std.specs.Prelude.{Ok, Err}
use Rattle.answers.specs.Answers.{FiguresAnswer}

-- the figures from bounds for the loss of each load, or 19
unfoldable pub figures_by : List ℕ → List ℕ → List Load → FiguresAnswer
unfolding answered figures_of customers_sum
figures_by lower upper loads =
    answered Err (customers_fault (customers_sum loads)) (Ok (figures_of (customers_sum loads) lower upper loads))

-- the figures of a model from the bounds of its loads
abbrev pub model_figures : Model → FigureValues
model_figures m = figures_of (customers_sum m.loads) (load_lowers m) (load_uppers m) m.loads

-- those, or 19
abbrev pub figures_in : Model → FiguresAnswer
figures_in m = figures_by (load_lowers m) (load_uppers m) m.loads

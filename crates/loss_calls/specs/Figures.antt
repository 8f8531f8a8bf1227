-- What the calls for the figures of a study answer, by its gates or by a drawn tree.
use Rattle.std.specs.Prelude.{ℕ, List, [], ◌∷◌, take}
use Rattle.rules.specs.Breach.{first_breach}
use Rattle.rules.specs.Table.{unsound_fault, customers_fault}
use Rattle.study.specs.declared.Study.{Study}
use Rattle.answers.specs.Answered.{answered}
use Rattle.indices.specs.Figures.{customers_sum}
use Rattle.soundness.specs.Check.{sound}
use Rattle.meaning.specs.Meaning.{Meaning, meaning_fault, model_of}
use Rattle.evaluation.specs.Figures.{model_figures}
use Rattle.std.specs.Prelude.{Ok, Err}
use Rattle.answers.specs.Answers.{FiguresAnswer}

-- the customers of all loads of a study
abbrev pub customers_of : Study → ℕ
customers_of t = customers_sum (take t.loads t.load)

-- 16, then a breach of the meaning, then 19
abbrev pub figures_breaches : Meaning → Study → List ℕ
figures_breaches m t = unsound_fault (sound t) ∷ meaning_fault m t ∷ customers_fault (customers_of t) ∷ []

unfoldable pub figures_fault : Meaning → Study → ℕ
figures_fault m t = first_breach (figures_breaches m t)

unfoldable pub figures_given : Meaning → Study → FiguresAnswer
unfolding answered
figures_given m t = answered Err (figures_fault m t) (Ok (model_figures (model_of m t)))

-- What the calls for the bounds of a load answer, by a study's gates or by a drawn tree, and by what they are refused.
use Rattle.std.specs.Prelude.{ℕ, List, [], ◌∷◌}
use Rattle.rules.specs.Breach.{first_breach}
use Rattle.rules.specs.Table.{unsound_fault, item_fault}
use Rattle.study.specs.declared.Study.{Study}
use Rattle.answers.specs.Answered.{answered}
use Rattle.units.specs.declared.bounds.Enclosure.{Enclosure}
use Rattle.model.specs.Model.{Model, components, paths_of, probability_table}
use Rattle.probability.specs.Totals.{lower_loss, upper_loss}
use Rattle.soundness.specs.Check.{sound}
use Rattle.meaning.specs.Meaning.{Meaning, meaning_fault, model_of}
use Rattle.std.specs.Prelude.{Ok, Err}
use Rattle.answers.specs.Answers.{BoundsAnswer}

-- 16, then 17, then a breach of the meaning
abbrev pub loss_breaches : Meaning → Study → ℕ → List ℕ
loss_breaches m t j = unsound_fault (sound t) ∷ item_fault t.loads j ∷ meaning_fault m t ∷ []

unfoldable pub loss_fault : Meaning → Study → ℕ → ℕ
loss_fault m t j = first_breach (loss_breaches m t j)

-- the bounds for the loss of load j
abbrev pub loss_of : Model → ℕ → Enclosure
loss_of m j =
    record {
      lower = lower_loss (probability_table m) (components m) (paths_of m) j;
      upper = upper_loss (probability_table m) (components m) (paths_of m) j;
    }

-- the answer: the pair itself
unfoldable pub load_bounded : Meaning → Study → ℕ → BoundsAnswer
unfolding answered loss_fault
load_bounded m t j = answered Err (loss_fault m t j) (Ok (loss_of (model_of m t) j))

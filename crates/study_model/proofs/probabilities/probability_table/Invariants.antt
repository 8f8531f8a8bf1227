-- `study_model::probabilities::probability_table`: the probabilities of the components so far are written (`Filled`).
use Rattle.study_model.proofs.TableFilled.{Filled}
use Rattle.study_model.proofs.probabilities.probability_table.Given as goal

abbrev pub invariant-loop-i : goal.invariant-loop-i
invariant-loop-i l = Filled l.component l.initial.table l.i l.table

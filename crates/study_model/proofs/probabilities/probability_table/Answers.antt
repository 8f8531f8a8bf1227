-- `study_model::probabilities::probability_table` meets its contract: a component more writes its row, and behind the last one the table is whole.
use Rattle.std.proofs.Common.{refl, arith}
use Rattle.std.proofs.lemmas.Grind.{common_steps}
use Rattle.lists.specs.Rows.{put}
use Rattle.study_model.proofs.TableFilled.{filled-start, filled_more, filled-done}
use Rattle.study_model.proofs.probabilities.probability_table.Goals as goal

pub loop-i-init : goal.loop-i-init
loop-i-init c = filled-start c.told-component refl

pub loop-i-preserved : goal.loop-i-preserved
unfolding put
loop-i-preserved c =
    filled_more c.loop-i.invariant c.loop-i-test.true (grind (arith, common_steps))

pub returns : goal.returns
returns c = filled-done c.loop-i.invariant c.loop-i-test.false

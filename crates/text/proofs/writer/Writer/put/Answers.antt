-- `text::writer::Writer::put` meets its contract: what it writes over is as long as the bytes.
use Rattle.std.proofs.Common.{arith, refl}
use Rattle.std.proofs.lemmas.Grind.{common_steps}
use Rattle.lists.specs.Rows.{put}
use Rattle.text.proofs.writer.Writer.put.Goals as goal

pub returns : goal.returns
unfolding put
returns c = record { holds = grind (arith, common_steps); behind = refl; long = grind (arith, common_steps); same_buffer = refl }

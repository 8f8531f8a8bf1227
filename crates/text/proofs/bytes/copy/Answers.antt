-- `text::bytes::copy` meets its contract: what it writes over is as long as the bytes.
use Rattle.std.proofs.Common.{arith, refl}
use Rattle.std.proofs.lemmas.Grind.{common_steps}
use Rattle.lists.specs.Rows.{put}
use Rattle.text.proofs.bytes.copy.Goals as goal

pub returns : goal.returns
unfolding put
returns c = record { holds = grind (arith, common_steps); behind = refl }

-- `writing::inputs::write_tests` meets its contract: the tests below j are written (`Tabled`).
use Rattle.std.proofs.Common.{arith}
use Rattle.text.proofs.Written.{tabled_start, tabled_more}
use Rattle.writing.proofs.inputs.write_tests.Goals as goal

pub loop-j-init : goal.loop-j-init
loop-j-init c =
    tabled_start c.requires.room

pub put-requires : goal.put-requires
put-requires c =
    c.loop-j.invariant.next (omega (arith, c.from-j-end.ensures, c.loop-j-test.true))

pub loop-j-preserved : goal.loop-j-preserved
loop-j-preserved c =
    tabled_more c.loop-j.invariant (omega (arith, c.from-j-end.ensures, c.loop-j-test.true)) c.put.ensures

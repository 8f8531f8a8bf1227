-- `entries::row::same_classes` meets its contract. The places below i are compared (`SameLeft`).
use Rattle.std.proofs.Common.{arith}
use Rattle.lists.proofs.Same.{same_start, same_more, same-done}
use Rattle.entries.proofs.row.same_classes.Goals as goal

pub loop-i-init : goal.loop-i-init
loop-i-init c = same_start c.requires

pub bounds-b-i : goal.bounds-b-i
bounds-b-i c = omega (arith, c.loop-i.invariant.even, c.loop-i-test.true)

pub loop-i-preserved : goal.loop-i-preserved
loop-i-preserved c = same_more c.loop-i.invariant c.loop-i-test.true

pub returns : goal.returns
returns c = same-done c.loop-i.invariant c.loop-i-test.false

-- `probability::listed::path_bounds` meets its contract: each turn writes the bound of one path more.
use Rattle.std.proofs.Common.{arith}
use Rattle.lists.proofs.Writing.{writing_start, writing_more, writing-done}
use Rattle.probability.proofs.Bounded.{bounds-long, bound-is}
use Rattle.probability.proofs.listed.ListedPaths.path_bounds.Goals as goal

pub loop-k-init : goal.loop-k-init
loop-k-init c =
    let self = c.args.self.now in
    let long = bounds-long c.args.rounding.added self.probabilities.now self.components self.list.now self.paths in
    writing_start (omega (arith, long))

pub loop-k-preserved : goal.loop-k-preserved
loop-k-preserved c =
    let self = c.args.self.now in
    let long = bounds-long c.args.rounding.added self.probabilities.now self.components self.list.now self.paths in
    let own = bound-is c.args.rounding.added self.probabilities.now self.components self.list.now self.paths c.loop-k-test.true c.bound_at.ensures in
    writing_more c.loop-k.invariant (omega (arith, long)) own

pub returns : goal.returns
returns c =
    let self = c.args.self.now in
    let long = bounds-long c.args.rounding.added self.probabilities.now self.components self.list.now self.paths in
    writing-done c.loop-k.invariant (omega (arith, long))

-- `totals::walk::add_paths` meets its contract. The components left fall at each call; for each of the two bounds the
-- paths of the ways below s are added (`Walked`).
use Rattle.std.proofs.Common.{length}
use Rattle.units.specs.One.{one}
use Rattle.units.specs.Rounding.{down, up}
use Rattle.totals.specs.Places.{sums_most}
use Rattle.totals.proofs.Walked.{Walked}
use Rattle.totals.proofs.walk.+add_paths.Given as goal

abbrev pub invariant-loop-s : goal.invariant-loop-s
invariant-loop-s g l =
    let loadwise = g.T.Tally.loadwise in
    Walked loadwise down sums_most l.probabilities l.i l.fork l.low l.initial.lower l.s l.lower
    × Walked loadwise up one l.probabilities l.i l.fork l.high l.initial.upper l.s l.upper

abbrev pub decreases-add_paths : goal.decreases-add_paths
decreases-add_paths g l = length l.block.counts.now

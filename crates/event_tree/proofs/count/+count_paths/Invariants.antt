-- `event_tree::count::count_paths` meets its contract. The components left fall at each call; the paths of the ways
-- below s are counted (`Counted`).
use Rattle.std.proofs.Common.{length}
use Rattle.event_tree.proofs.Counted.{Counted}
use Rattle.event_tree.proofs.count.+count_paths.Given as goal

abbrev pub invariant-loop-s : goal.invariant-loop-s
invariant-loop-s l = Counted l.fork l.s l.paths

abbrev pub decreases-count_paths : goal.decreases-count_paths
decreases-count_paths l = length l.block.counts.now

-- `event_tree::list::list_block` meets its contract. The components left fall at each call; the paths of the ways below
-- s are written, and the marks in front stand as they were (`Listed`).
use Rattle.std.proofs.Common.{length, take}
use Rattle.event_tree.proofs.Listed.{Listed}
use Rattle.event_tree.proofs.list.+list_block.Given as goal

abbrev pub invariant-loop-s : goal.invariant-loop-s
invariant-loop-s l =
    Listed l.fork (take l.front l.initial.marks) l.front (length l.initial.marks) l.initial.out l.at l.s l.marks l.out
    l.place

abbrev pub decreases-list_block : goal.decreases-list_block
decreases-list_block l = length l.block.counts.now

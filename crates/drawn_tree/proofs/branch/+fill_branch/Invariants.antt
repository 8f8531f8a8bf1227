-- `drawn_tree::branch::fill_branch` meets its contract. The components left fall at each turn and at each call. Settled
-- marks lead to the part that is left to fill (`Ahead`); at a blank one the parts of the states below s are filled
-- (`Filled`).
use Rattle.std.proofs.Common.{drop, get_or, length}
use Rattle.drawn_tree.proofs.BranchFilled.{Ahead, Filled}
use Rattle.drawn_tree.proofs.branch.+fill_branch.Given as goal

abbrev pub invariant-loop-counts : goal.invariant-loop-counts
invariant-loop-counts l = Ahead l.fn.counts l.fn.marks l.class l.fn.block l.counts l.marks l.from l.size l.block

abbrev pub decreases-loop-counts : goal.decreases-loop-counts
decreases-loop-counts l = length l.counts

abbrev pub invariant-loop-s : goal.invariant-loop-s
invariant-loop-s l =
    Filled l.fn.counts l.fn.marks l.class l.fn.block (get_or l.counts 0 0) l.size (drop 1 l.counts) (drop 1 l.marks)
    l.from l.s l.block

abbrev pub decreases-fill_branch : goal.decreases-fill_branch
decreases-fill_branch l = length l.counts.now

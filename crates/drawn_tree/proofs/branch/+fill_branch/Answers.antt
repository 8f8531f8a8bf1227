-- `drawn_tree::branch::fill_branch` meets its contract. The components left fall at each turn and at each call. Settled
-- marks lead to the part that is left to fill (`Ahead`); at a blank one the parts of the states below s are filled
-- (`Filled`).
use Rattle.std.proofs.Common.{arith}
use native.Mathlib.Nat.{add-sub_cancel_left}
use Rattle.drawn_tree.proofs.BranchFilled.{later-is, filled_more, filled-done}
use Rattle.drawn_tree.proofs.BranchFilled.{ahead-place, ahead-one, ahead-blank, ahead-nowhere, ahead-settled}
use Rattle.drawn_tree.proofs.branch.+fill_branch.Goals as goal

pub loop-s-init : goal.loop-s-init
loop-s-init t c = ahead-blank c.loop-counts.invariant (omega arith) c.if-mark.true

pub loop-s-preserved : goal.loop-s-preserved
loop-s-preserved t c =
    filled_more c.loop-s.invariant c.loop-s-test.true (rw (
      later-is c.loop-counts.counts.now,
      later-is c.loop-counts.marks.now,
      add-sub_cancel_left,
    ) at c.fill_branch.ensures)

pub returns-then-mark : goal.returns-then-mark
returns-then-mark t c = filled-done c.loop-s.invariant (omega arith)

pub returns-then-states-mark : goal.returns-then-states-mark
returns-then-states-mark t c =
    ahead-nowhere c.loop-counts.invariant (omega arith) c.if-mark.false c.if-states-mark.true

pub loop-counts-preserved : goal.loop-counts-preserved
loop-counts-preserved t c =
    rw (later-is c.loop-counts.counts.now, later-is c.loop-counts.marks.now)
    (ahead-settled c.loop-counts.invariant (omega arith) c.if-mark.false (omega arith))

pub bounds-block-from : goal.bounds-block-from
bounds-block-from t c = ahead-place c.loop-counts.invariant (omega arith)

pub returns : goal.returns
returns t c = ahead-one c.loop-counts.invariant (omega arith)

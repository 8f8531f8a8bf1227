-- `drawn_tree::tree::draw_tree` meets its contract. The components left to ask fall at each call; the subtrees of the states below s are drawn
-- (`Drawing`).
use Rattle.drawn_tree.specs.Filling.{unasked}
use Rattle.drawn_tree.proofs.Steps.{Drawing}
use Rattle.drawn_tree.proofs.tree.+draw_tree.Given as goal

abbrev pub decreases-draw_tree : goal.decreases-draw_tree
decreases-draw_tree l = unasked l.marks.now

abbrev pub invariant-loop-s : goal.invariant-loop-s
invariant-loop-s l =
    Drawing l.counts l.loads l.initial.marks l.initial.table l.initial.bytes.rest.now l.c l.s-end l.s l.marks l.table l.bytes.rest.now

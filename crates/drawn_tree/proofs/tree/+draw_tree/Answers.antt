-- `drawn_tree::tree::draw_tree` meets its contract. The components left to ask fall at each call; the subtrees of the states below s are drawn
-- (`Drawing`).
use Rattle.std.proofs.Common.{ap, sym, ◌∙◌, ◌≡◌, ◌≤◌, ℕ, Bool, length, get_or, arith}
use Rattle.rules.specs.Table.{node_fault}
use Rattle.entries.specs.Entries.{blank_mark}
use Rattle.drawn_tree.specs.Reading.{asked as reading_asked}
use Rattle.drawn_tree.proofs.Asked.{Free, free-kept}
use Rattle.drawn_tree.proofs.Steps.{handed-on, drawn-short, drawn-leaf, drawn-refused, drawn-node}
use Rattle.drawn_tree.proofs.Steps.{drawing-start, fewer-left, drawing-more, drawing-stopped, drawing-done}
use Rattle.drawn_tree.proofs.tree.+draw_tree.Goals as goal
use Rattle.drawn_tree.proofs.tree.+draw_tree.Goals.{In_ok-node_fault}

-- row 20 is kept
kept : {t : ℕ} (c : In_ok-node_fault t) → let first = c.in_ok-first.first in 0 ≡ node_fault (length c.args.counts.now) first (reading_asked c.args.marks.now first)
kept c = c.in_ok-node_fault.ensures ∙ ap (λ (above : Bool). node_fault (length c.args.counts.now) c.in_ok-first.first above) c.asked.ensures

-- a component of the study is asked, that no branch above has
free : {t : ℕ} (c : In_ok-node_fault t) → Free (length c.args.counts.now) c.args.marks.now c.in_ok-first.first
free c = free-kept _ _ _ (sym (kept c))

few : {t : ℕ} (c : In_ok-node_fault t) → get_or c.args.counts.now c.in_ok-first.first 0 ≤ blank_mark
few c = c.requires.block.most c.in_ok-first.first (free c).inside

pub returns-in_err-first-clause-read : goal.returns-in_err-first-clause-read
returns-in_err-first-clause-read t c = handed-on _ _ _ _ c.from_residual.ensures.1 (drawn-short _ _ _ _ _ _ c.in_err-first.ensures)

pub returns-then-first-clause-read : goal.returns-then-first-clause-read
returns-then-first-clause-read t c = c.draw_leaf.ensures ∙ drawn-leaf _ _ _ _ _ c.in_ok-first.ensures c.if-first.true

pub returns-in_err-node_fault-clause-read : goal.returns-in_err-node_fault-clause-read
returns-in_err-node_fault-clause-read t c =
    let above = ap (λ (above : Bool). node_fault (length c.args.counts.now) c.in_ok-first.first above) c.asked.ensures in
    handed-on _ _ _ _ c.from_residual-in_err-node_fault.ensures.1
    (drawn-refused _ _ _ _ _ c.in_ok-first.ensures c.if-first.false _ (c.in_err-node_fault.ensures ∙ above))

pub bounds-counts-c : goal.bounds-counts-c
bounds-counts-c t c = (free (goal.at.bounds-counts-c t c).In_ok-node_fault).inside

pub loop-s-init : goal.loop-s-init
loop-s-init t c = drawing-start (free (goal.at.loop-s-init t c).In_ok-node_fault) c.requires.block

pub draw_tree-requires : goal.draw_tree-requires
draw_tree-requires t c =
    let here = (goal.at.draw_tree-requires t c).In_ok-node_fault in
    let fewer = fewer-left c.loop-s.invariant (free here) (few here) c.loop-s-test.true in
    (omega (arith, fewer, c.decreases), (c.loop-s.invariant.whole, (c.requires.counts_len_bound, c.requires.loads_le_most_loads)))

pub returns-in_err-draw_tree-clause-read : goal.returns-in_err-draw_tree-clause-read
returns-in_err-draw_tree-clause-read t c =
    let here = (goal.at.returns-in_err-draw_tree-clause-read t c).In_ok-node_fault in
    handed-on _ _ _ _ c.from_residual-in_err-draw_tree.ensures.1
    (drawing-stopped c.loop-s.invariant (free here) (few here) c.loop-s-test.true c.in_err-draw_tree.ensures.read
    ∙ drawn-node _ _ _ _ _ c.in_ok-first.ensures c.if-first.false (kept here))

pub loop-s-preserved : goal.loop-s-preserved
loop-s-preserved t c =
    let here = (goal.at.loop-s-preserved t c).In_ok-node_fault in
    let drawn = c.in_ok-draw_tree.ensures in
    drawing-more c.loop-s.invariant (free here) (few here) c.loop-s-test.true drawn.read drawn.marks c.draw_tree.auto.table

pub bounds-marks-c-2 : goal.bounds-marks-c-2
bounds-marks-c-2 t c = omega (arith, (free (goal.at.bounds-marks-c-2 t c).In_ok-node_fault).inside, c.requires.counts_len_bound)

pub returns-clause-read : goal.returns-clause-read
returns-clause-read t c =
    let here = (goal.at.returns-clause-read t c).In_ok-node_fault in
    drawing-done c.loop-s.invariant c.loop-s-test.false ∙ drawn-node _ _ _ _ _ c.in_ok-first.ensures c.if-first.false (kept here)

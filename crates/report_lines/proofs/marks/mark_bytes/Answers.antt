-- `report_lines::marks::mark_bytes`: the marks so far are written.
use Rattle.std.proofs.Common.{◌<◌, ◌≡◌, arith, length-take}
use Rattle.text.proofs.Written.{tabled_more}
use Rattle.report_lines.proofs.Marked.{mark-is, marks-at}
use Rattle.report_lines.proofs.marks.mark_bytes.Goals as goal

pub loop-mark-preserved : goal.loop-mark-preserved
loop-mark-preserved c =
    let entry = c.args.entry.now in
    let inside : c.loop-mark.mark-index < c.args.n = omega (arith, length-take c.args.n entry) in
    let own = mark-is c.args.n entry c.loop-mark.mark-index inside (omega (arith, c.requires.n_in_bounds)) in
    tabled_more c.loop-mark.invariant inside (rw (c.mark_byte.ensures, own) at c.put.ensures)

pub returns : goal.returns
returns c =
    let all : c.loop-mark.mark-index ≡ c.args.n = omega (arith, length-take c.args.n c.args.entry.now, c.requires.n_in_bounds) in
    rw marks-at (rw all at c.loop-mark.invariant.wrote)

-- `report_lines::class_list::count_paths`: the paths below k are counted, each at its class (`Counts`).
use Rattle.std.proofs.Common.{arith, refl, ◌∙◌}
use Rattle.report_lines.proofs.Counts.{counts_start, counts-place, counts-few, counts-more, counts-done}
use Rattle.report_lines.proofs.class_list.count_paths.Goals as goal

pub loop-k-init : goal.loop-k-init
loop-k-init c = counts_start c.args.paths.now.boundable.room c.requires c.clear.ensures

pub bounds-counts-class : goal.bounds-counts-class
bounds-counts-class c = counts-place c.loop-k.invariant (omega arith)

pub overflow_add-counts : goal.overflow_add-counts
overflow_add-counts c =
    let inv = c.loop-k.invariant in
    record { fits = omega (arith, counts-few c.from-class.result inv (omega arith), c.loop-k-test.true, inv.listed.few) }

pub loop-k-preserved : goal.loop-k-preserved
loop-k-preserved c =
    counts-more c.loop-k.invariant c.loop-k-test.true (omega arith) (c.from-class.ensures ∙ c.class_at.ensures) refl

pub returns : goal.returns
returns c = counts-done c.clear.ensures c.loop-k.invariant c.loop-k-test.false

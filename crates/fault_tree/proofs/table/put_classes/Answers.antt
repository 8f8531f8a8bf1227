-- `fault_tree::table::put_classes` meets its contract: it begins with all components up.
use Rattle.std.proofs.Common.{◌≡◌, sym, ap, ◌∙◌, length, rules}
use lib.ListN.{length-map}
use lib.Seq.{length-take-le}
use Rattle.rules.specs.Limits.{most_components}
use Rattle.study.specs.declared.Component.{Component}
use Rattle.study.specs.declared.Study.{Study}
use Rattle.soundness.proofs.Ranges.{components-most}
use Rattle.fault_tree.specs.Readable.{all_up}
use Rattle.fault_tree.proofs.SoundReadable.{begins}
use Rattle.fault_tree.proofs.table.put_classes.Goals as goal

pub slice_bounds-all-end : goal.slice_bounds-all-end
slice_bounds-all-end c =
    let places : length c.state_counts-all.result ≡ most_components = search rules in
    rw places (components-most _ c.requires.sound)

pub slice_bounds-fill_table-end : goal.slice_bounds-fill_table-end
slice_bounds-fill_table-end c =
    let places : length c.state_counts-all.result ≡ most_components = search rules in
    sym (length-take-le _ _ (rw places (components-most _ c.requires.sound)))

pub slice_bounds-x-end : goal.slice_bounds-x-end
slice_bounds-x-end c = components-most _ c.requires.sound

pub slice_bounds-fill_table-end-2 : goal.slice_bounds-fill_table-end-2
slice_bounds-fill_table-end-2 c = sym (length-take-le _ _ (components-most _ c.requires.sound))

pub fill_table-requires-clause-table_begins : goal.fill_table-requires-clause-table_begins
unfolding all_up
fill_table-requires-clause-table_begins c =
    let study : Study = c.args.t.now in
    let all = c.state_counts-all in
    let places : length all.result ≡ most_components = search rules in
    let long = sym (length-map study.component (λ (k : Component). k.states)) ∙ ap length (sym all.ensures) ∙ places in
    rw all.ensures (begins study c.requires.sound long)

-- `fault_tree::table::fill_table` meets its contract. The classes of the joint states below k are set, and x is the one
-- numbered k (`Tabled`); in x, the truths of the gates below i are set (`Evaluated`).
use Rattle.std.proofs.Common.{refl, ap, ◌∙◌, Bool, List, arith}
use Rattle.soundness.proofs.Ranges.{loads-most, gates-most, counts-small}
use Rattle.fault_tree.specs.Classes.{class_by, class_of}
use Rattle.fault_tree.proofs.GateTruths.{evaluated-start, evaluated-more, evaluated-long, evaluated-done}
use Rattle.fault_tree.proofs.SoundReadable.{once-readable, once-told}
use Rattle.fault_tree.proofs.Tables.{tabled_start, tabled-more, tabled-inside, tabled-done}
use Rattle.fault_tree.proofs.table.fill_table.Goals as goal

pub distinct_gates-once-requires-clause-few : goal.distinct_gates-once-requires-clause-few
distinct_gates-once-requires-clause-few c = gates-most _ c.requires.table_begins.sound

pub joint_states-k-end-requires-clause-small : goal.joint_states-k-end-requires-clause-small
joint_states-k-end-requires-clause-small c = let b = c.requires.table_begins in counts-small _ b.sound _ b.same

pub loop-k-init : goal.loop-k-init
loop-k-init c = tabled_start c.requires.table_begins c.requires.most_joint_states_in_bounds c.joint_states-k-end.ensures

pub loop-i-init : goal.loop-i-init
loop-i-init c = evaluated-start refl

pub bounds-once-i : goal.bounds-once-i
bounds-once-i c = omega (arith, gates-most _ c.loop-k.invariant.sound, c.loop-i-test.true)

pub gate_true-requires : goal.gate_true-requires
gate_true-requires c =
    let tabled = c.loop-k.invariant in
    once-readable _ tabled.sound _ c.distinct_gates-once.ensures _ c.loop-i-test.true _ _
    (rw tabled.same at tabled.joint) (evaluated-long c.loop-i.invariant)

pub loop-i-preserved : goal.loop-i-preserved
loop-i-preserved c =
    let told = once-told _ c.loop-k.invariant.sound _ c.distinct_gates-once.ensures _ c.loop-i-test.true _ _ in
    evaluated-more c.loop-i.invariant c.loop-i-test.true (c.gate_true.ensures ∙ told)

pub class_by-requires : goal.class_by-requires
class_by-requires c = loads-most _ c.loop-k.invariant.sound

pub set_class-requires : goal.set_class-requires
set_class-requires c = tabled-inside c.loop-k.invariant c.loop-k-test.true

pub loop-k-preserved : goal.loop-k-preserved
unfolding class_of
loop-k-preserved c =
    let t = c.args.t.now in
    let truths = evaluated-done c.loop-i.invariant c.loop-i-test.false in
    let class = c.class_by.ensures ∙ ap (λ (row : List Bool). class_by row t.load t.loads) truths in
    let moved = c.next_joint_state.ensures in
    tabled-more c.loop-k.invariant c.loop-k-test.true class c.set_class.ensures moved.joint_state moved.x_after

pub returns : goal.returns
returns c = tabled-done c.loop-k.invariant c.loop-k-test.false

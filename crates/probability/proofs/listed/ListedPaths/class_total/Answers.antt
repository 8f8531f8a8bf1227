-- `probability::classes::class_total` meets its contract: an entry that bears another class, and one that bears the class (`OneClass`).
use Rattle.std.proofs.Common.{◌+◌, arith, subst, sym}
use Rattle.probability.specs.ClassTotal.{TotalOf}
use Rattle.entries.specs.Entries.{entries_of}
use Rattle.probability.specs.declared.classes.ClassTotal.{ClassTotal}
use Rattle.probability.proofs.OneClass.{class-start, other-borne, own-borne, paths-few, lower-most}
use Rattle.probability.proofs.listed.ListedPaths.class_total.Goals.{then-class_at-class, else-class_at-class}
use Rattle.probability.proofs.listed.ListedPaths.class_total.Goals as goal

pub loop-k-init : goal.loop-k-init
loop-k-init c =
    let zero = c.default-total.ensures in
    class-start c.args.self.now.list.now zero.0 zero.1.0 zero.1.1

pub add-requires : goal.add-requires
add-requires c =
    let self = c.args.self.now in
    let few = paths-few self.list.now c.loop-k.k c.loop-k.invariant in
    let lower = lower-most self.list.now c.loop-k.k c.loop-k.invariant self.boundable.table in
    record {
      paths_few = omega (arith, few, self.boundable.room.few);
      lower_most = omega (arith, lower, self.boundable.room.few);
      upper_most = omega arith;
      lower_le_one = c.bound_at.ensures.most;
      upper_le_one = c.bound_at-then-class_at-class.ensures.most;
    }

pub loop-k-preserved : goal.loop-k-preserved
loop-k-preserved c =
    let list = c.args.self.now.list.now in
    let after : ClassTotal → Type 0 = λ (t : ClassTotal).
    TotalOf c.args.self.now.probabilities.now c.args.self.now.components c.args.class (entries_of c.args.self.now.components (c.loop-k.k + 1) list) t in
    elim c.if-class_at-class.branch [
      | then-class_at-class w ↦
          subst after (sym w.total-is)
          (own-borne list c.loop-k.k c.loop-k.invariant c.class_at.ensures w.if-class_at-class.true w.bound_at.ensures
          w.bound_at-then-class_at-class.ensures w.add.ensures.one_more w.add.ensures.lower_added w.add.ensures.upper_added)
      | else-class_at-class w ↦
          subst after (sym w.total-is) (other-borne list c.loop-k.k c.loop-k.invariant c.class_at.ensures w.if-class_at-class.false)
    ]

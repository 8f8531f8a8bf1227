-- `study_model::in_hand::block` meets its contract: the counts in use, and as many classes of the table, are the model's block.
use Rattle.std.proofs.Common.{◌≡◌, sym, ap, arith, take}
use Rattle.std.proofs.Math.Seq.{length-take-le}
use Rattle.model.specs.Model.{classes_of}
use Rattle.model.proofs.Classes.{good-block}
use Rattle.study_model.specs.InHand.{model_in}
use Rattle.study_model.proofs.ClassFront.{cut_inside, cut-classes}
use Rattle.study_model.proofs.in_hand.ModelInHand.block.Goals as goal
use Rattle.study_model.proofs.in_hand.ModelInHand.block.Goals.{After-joint_states-joint}

pub joint_states-joint-requires : goal.joint_states-joint-requires
joint_states-joint-requires c =
    let all = cut_inside c.counts_in_use-counts.result.now c.args.self.in_hand c.counts_in_use-counts.ensures in
    record { few = all.0; small = all.1.0 }

pub slice_bounds-result-end : goal.slice_bounds-result-end
slice_bounds-result-end c =
    let all = cut_inside c.counts_in_use-counts.result.now c.args.self.in_hand c.counts_in_use-counts.ensures in
    sym (length-take-le c.joint_states-joint.result c.args.self.classes.now (omega (arith, c.joint_states-joint.ensures, all.1.1)))

-- the counts and the classes are the model's
own : (c : After-joint_states-joint) → let m = model_in c.args.self in
    (c.counts_in_use-counts.result.now ≡ m.counts) × (take c.joint_states-joint.result c.args.self.classes.now ≡ classes_of m)
own c =
    let is_block = ap (λ n. take n c.args.self.classes.now) c.joint_states-joint.ensures in
    cut-classes c.args.self.in_hand c.counts_in_use-counts.ensures is_block

pub invariant_of-result : goal.invariant_of-result
invariant_of-result c =
    let m = model_in c.args.self in
    let of_model = own (goal.at.invariant_of-result c).After-joint_states-joint in
    record { whole = rw (of_model.0, of_model.1) (good-block m c.args.self.in_hand.good) }

pub returns : goal.returns
returns c =
    let of_model = own (goal.at.returns c).After-joint_states-joint in
    record { counts = of_model.0; classes = of_model.1 }

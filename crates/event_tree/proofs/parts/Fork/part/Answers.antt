-- `event_tree::parts::Fork::part` meets its contract: the classes of the ways below s stand in front of the part.
use Rattle.std.proofs.Common.{arith}
use Rattle.event_tree.proofs.Forked.{way-inside, way-block, later-is}
use Rattle.event_tree.proofs.parts.Fork.part.Goals as goal

pub overflow_mul-s : goal.overflow_mul-s
overflow_mul-s c =
    let f = c.args.self in
    record { fits = omega (arith, way-inside _ _ _ _ f.block.whole f.some f.at c.args.s c.requires) }

pub classes_from-requires : goal.classes_from-requires
classes_from-requires c =
    let f = c.args.self in way-inside _ _ _ _ f.block.whole f.some f.at c.args.s c.requires

pub invariant_of-result : goal.invariant_of-result
invariant_of-result c =
    let f = c.args.self in
    record {
      whole = rw (later-is f.block.counts.now, c.classes_from.ensures)
          (way-block _ _ _ _ f.block.whole f.some f.at c.args.s c.requires);
    }

pub returns : goal.returns
returns c =
    record { counts = later-is c.args.self.block.counts.now; classes = c.classes_from.ensures }

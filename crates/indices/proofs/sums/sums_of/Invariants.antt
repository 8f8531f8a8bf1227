-- `indices::sums::sums_of`: the sums of the loads so far are added (`Carried`), and the others are left.
use Rattle.std.proofs.Common.{◌≡◌, drop, length}
use Rattle.indices.proofs.Carried.{Carried}
use Rattle.indices.proofs.sums.sums_of.Given as goal

abbrev pub invariant-loop-loss : goal.invariant-loop-loss
invariant-loop-loss l =
    record {
      can_next : (goal.iterator-loop-loss).can_next l.loss-iterator;
      finite : (goal.iterator-loop-loss).is_finite l.loss-iterator;
      losses_left : l.loss-iterator.a.rest.now ≡ drop (length l.yielded) l.losses;
      loads_left : l.loss-iterator.b.rest.now ≡ drop (length l.yielded) l.loads;
      carried : Carried l.losses l.loads (length l.yielded) l.sums;
    }

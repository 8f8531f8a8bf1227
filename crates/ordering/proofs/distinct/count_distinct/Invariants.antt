-- `ordering::distinct::count_distinct` meets its contract. The loop goes along the row (`Along`), with the rank of the input before each place in hand.
use Rattle.std.proofs.Common.{◌≡◌, ◌+◌, ◌*◌, ◌-◌, get_or}
use Rattle.ordering.specs.Inputs.{mask_values}
use Rattle.ordering.proofs.Along.{Along}
use Rattle.ordering.proofs.distinct.count_distinct.Given as goal

abbrev pub invariant-loop-at : goal.invariant-loop-at
invariant-loop-at l =
    Along l.number l.mask l.many (l.at - 1) × (l.before ≡ mask_values * get_or l.number (l.at - 1) 0 + get_or l.mask (l.at - 1) 0)

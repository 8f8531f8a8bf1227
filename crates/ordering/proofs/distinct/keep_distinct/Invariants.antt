-- `ordering::distinct::keep_distinct` meets its contract. Those that count from a place on are still to be put at the front (`Thinning`).
use Rattle.ordering.proofs.Thinned.{Thinning}
use Rattle.ordering.proofs.distinct.keep_distinct.Given as goal

abbrev pub invariant-loop-at : goal.invariant-loop-at
invariant-loop-at l =
    Thinning l.initial.number l.initial.mask l.number l.mask l.kept l.at

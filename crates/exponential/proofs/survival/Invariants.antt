-- `exponential::survival` meets its contract. Before each turn of the loop, going on from there gives the product of all factors (`Going`).
use Rattle.exponential.proofs.Along.{Going}
use Rattle.exponential.proofs.survival.Given as goal

abbrev pub invariant-loop-factor : goal.invariant-loop-factor
invariant-loop-factor l =
    Going l.exponent l.bits l.factor-index l.b

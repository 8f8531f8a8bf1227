-- `probability::path::path_bound`: the bound is that of the path as far as the components below i.
use Rattle.probability.specs.Bounded.{Bounded}
use Rattle.probability.proofs.path.path_bound.Given as goal

abbrev pub invariant-loop-i : goal.invariant-loop-i
invariant-loop-i l = Bounded l.rounding.added l.probabilities l.i l.entry l.bound

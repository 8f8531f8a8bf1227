-- `probability::classes::class_total`: the entries below k are in the total.
use Rattle.entries.specs.Entries.{entries_of}
use Rattle.probability.specs.ClassTotal.{TotalOf}
use Rattle.probability.proofs.listed.ListedPaths.class_total.Given as goal

abbrev pub invariant-loop-k : goal.invariant-loop-k
invariant-loop-k l =
    TotalOf l.self.probabilities.now l.self.components l.class (entries_of l.self.components l.k l.self.list.now) l.total

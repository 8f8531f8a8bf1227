-- `probability::listed::path_bounds`: the bounds of the paths below k are written.
use Rattle.lists.proofs.Writing.{Writing}
use Rattle.entries.specs.Entries.{entries_of}
use Rattle.probability.specs.Totals.{path_bounds}
use Rattle.probability.proofs.listed.ListedPaths.path_bounds.Given as goal

abbrev pub invariant-loop-k : goal.invariant-loop-k
invariant-loop-k l =
    let paths = entries_of l.self.components l.self.paths l.self.list.now in
    Writing (path_bounds l.rounding.added l.self.probabilities.now l.self.components paths) l.initial.out 0 l.k l.out l.k

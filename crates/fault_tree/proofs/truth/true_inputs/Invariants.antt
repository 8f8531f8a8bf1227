-- `fault_tree::truth::true_inputs` meets its contract. The gate inputs below j are counted (`Counted`).
use Rattle.std.proofs.Common.{ℕ, false, get_or}
use Rattle.lists.proofs.Sums.{Counted}
use Rattle.fault_tree.proofs.truth.true_inputs.Given as goal

abbrev pub invariant-loop-j : goal.invariant-loop-j
invariant-loop-j l = Counted (λ (k : ℕ). get_or l.truths (get_or l.g.input k 0) false) l.g.gates l.j l.n

-- `fault_tree::truth::true_tests` meets its contract. The tests below j are counted (`Counted`).
use Rattle.std.proofs.Common.{ℕ, get_or}
use Rattle.lists.specs.Bits.{bit}
use Rattle.lists.proofs.Sums.{Counted}
use Rattle.fault_tree.proofs.truth.true_tests.Given as goal

abbrev pub invariant-loop-j : goal.invariant-loop-j
invariant-loop-j l = Counted (λ (k : ℕ). bit (get_or l.g.mask k 0) (get_or l.x (get_or l.g.component k 0) 0)) l.g.tests l.j l.n

-- `fault_tree::table::fill_table` meets its contract. The classes of the joint states below k are set, and x is the one
-- numbered k (`Tabled`); in x, the truths of the gates below i are set (`Evaluated`).
use Rattle.fault_tree.proofs.GateTruths.{Evaluated}
use Rattle.fault_tree.proofs.Tables.{Tabled}
use Rattle.fault_tree.proofs.table.fill_table.Given as goal

abbrev pub invariant-loop-i : goal.invariant-loop-i
invariant-loop-i l = Evaluated l.t.gate l.x l.t.gates l.i l.truths

abbrev pub invariant-loop-k : goal.invariant-loop-k
invariant-loop-k l = Tabled l.t l.counts l.initial.table l.k-end l.k l.x l.table

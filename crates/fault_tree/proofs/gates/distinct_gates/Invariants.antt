-- `fault_tree::gates::distinct_gates` meets its contract: the gates below i are without their repeats.
use Rattle.std.proofs.Common.{◌≡◌, length}
use Rattle.rules.specs.Limits.{most_gates}
use Rattle.fault_tree.specs.Told.{OnceEach}
use Rattle.fault_tree.proofs.gates.distinct_gates.Given as goal

abbrev pub invariant-loop-i : goal.invariant-loop-i
invariant-loop-i l = (length l.once ≡ most_gates) × OnceEach l.gates l.i l.once

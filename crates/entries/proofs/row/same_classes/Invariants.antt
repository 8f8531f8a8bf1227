-- `entries::row::same_classes` meets its contract. The places below i are compared (`SameLeft`).
use Rattle.lists.proofs.Same.{SameLeft}
use Rattle.entries.proofs.row.same_classes.Given as goal

abbrev pub invariant-loop-i : goal.invariant-loop-i
invariant-loop-i l = SameLeft l.a l.b l.i l.alike

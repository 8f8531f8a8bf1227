-- `event_tree::blank::is_blank` meets its contract. The parts of the states below s are compared with that of state 0
-- (`Compared`).
use Rattle.event_tree.proofs.Compared.{Compared}
use Rattle.event_tree.proofs.blank.is_blank.Given as goal

abbrev pub invariant-loop-s : goal.invariant-loop-s
invariant-loop-s l =
    Compared l.states l.size l.block l.s l.blank

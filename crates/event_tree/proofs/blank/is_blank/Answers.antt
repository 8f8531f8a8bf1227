-- `event_tree::blank::is_blank` meets its contract. The parts of the states below s are compared with that of state 0
-- (`Compared`).
use Rattle.std.proofs.Common.{refl}
use native.Mathlib.Nat.{zero-mul}
use Rattle.event_tree.proofs.Compared.{compared-start, compared-more, compared-done}
use Rattle.event_tree.proofs.blank.is_blank.Goals as goal

pub loop-s-init : goal.loop-s-init
loop-s-init c =
    compared-start c.requires.states_nonzero c.requires.block_len

pub loop-s-preserved : goal.loop-s-preserved
loop-s-preserved c =
    compared-more c.loop-s.invariant c.loop-s-test.true (rw zero-mul refl) c.classes_from.ensures
    c.same_classes-blank.ensures

pub returns : goal.returns
returns c =
    compared-done c.loop-s.invariant c.loop-s-test.false

-- `fault_tree::truth::true_tests` meets its contract: no more are counted than a gate has.
use Rattle.std.proofs.Common.{arith}
use Rattle.lists.proofs.Sums.{counted-more, counted-most}
use Rattle.fault_tree.proofs.truth.true_tests.Goals as goal

pub overflow_add-n : goal.overflow_add-n
overflow_add-n c =
    let more = counted-more c.loop-j.invariant c.loop-j-test.true c.test_true.ensures in
    record { fits = omega (arith, counted-most more, c.requires.count) }

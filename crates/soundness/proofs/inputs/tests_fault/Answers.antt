-- `soundness::inputs::tests_fault` meets its contract. No place so far is broken (`FirstLeft`), and the first that is ends the loop.
use Rattle.std.proofs.Common.{sym, ◌∙◌, arith}
use Rattle.soundness.specs.Check.{tests_fault}
use Rattle.rules.specs.Limits.{most_tests}
use Rattle.rules.proofs.Judged.{err_first, ok_first}
use Rattle.soundness.proofs.Places.{place_broken, all_passed}
use Rattle.soundness.proofs.Unused.{row_fault, no-tests}
use Rattle.soundness.proofs.inputs.tests_fault.Goals as goal

pub returns-in_err-test_place_fault : goal.returns-in_err-test_place_fault
unfolding tests_fault
returns-in_err-test_place_fault c =
    let first = place_broken c.loop-j.invariant _ c.loop-j-test.true c.in_err-test_place_fault.ensures in grind arith

pub returns : goal.returns
unfolding tests_fault
returns c = all_passed c.loop-j.invariant c.loop-j-test.false

-- with no tests, both rows are judged at once
pub returns-in_err-unused_row_fault : goal.returns-in_err-unused_row_fault
returns-in_err-unused_row_fault c =
    let first = err_first c.in_err-unused_row_fault.field-0.0 _ (row_fault most_tests c.args.mask.now) c.in_err-unused_row_fault.ensures in
    let unused = first ∙ no-tests c.args.counts.now c.args.component.now c.args.mask.now in
    rw c.if-tests-eq0.true (grind arith)

pub returns-then-tests-eq0 : goal.returns-then-tests-eq0
returns-then-tests-eq0 c =
    let next = ok_first _ (row_fault most_tests c.args.mask.now) c.in_ok-unused_row_fault.ensures in
    rw c.if-tests-eq0.true
    (c.unused_row_fault-then-tests-eq0.ensures ∙ sym next ∙ no-tests c.args.counts.now c.args.component.now c.args.mask.now)

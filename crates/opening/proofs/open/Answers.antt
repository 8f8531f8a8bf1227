-- `opening::open` meets its contract: the first refusal is the answer, and the end of the bytes is judged last.
use Rattle.std.proofs.Common.{◌≡◌, ◌∙◌, sym, ap, rules}
use Rattle.rules.specs.Refusals.{row_of}
use Rattle.rules.proofs.Judged.{some_row}
use Rattle.answers.proofs.Answered.{answered-done, answered-refused}
use Rattle.opening.specs.Opening.{refused_opening, opened}
use Rattle.opening.proofs.Sorting.{opened-refused, opened-ended}
use Rattle.opening.proofs.open.Goals as goal

pub returns-in_err-read_study : goal.returns-in_err-read_study
unfolding refused_opening
returns-in_err-read_study c =
    let refusal : refused_opening (row_of c.in_err-read_study.field-0.0) ≡ opened c.args.bytes.now = opened-refused c.args.bytes.now c.in_err-read_study.ensures in
    search rules

pub returns-in_err-left_fault : goal.returns-in_err-left_fault
unfolding refused_opening
returns-in_err-left_fault c =
    let e = c.in_err-left_fault.ensures in
    let refusal : refused_opening (row_of c.in_err-left_fault.field-0.0) ≡ opened c.args.bytes.now
    = ap refused_opening e ∙ sym (answered-refused refused_opening _ _ (λ none. some_row c.in_err-left_fault.field-0.0 (e ∙ none))) ∙ opened-ended c.args.bytes.now c.in_ok-read_study.ensures in
    search rules

pub returns : goal.returns
returns c = sym (answered-done refused_opening _ _ (sym c.in_ok-left_fault.ensures)) ∙ opened-ended c.args.bytes.now c.in_ok-read_study.ensures

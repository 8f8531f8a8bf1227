-- `evaluation::figures::figures_from` meets its contract: without customers it is refused, and otherwise there is something to divide by.
use Rattle.std.proofs.Common.{rules, ℕ, List, ◌≡◌, ◌∙◌, sym, ap, Ok, Err}
use Rattle.rules.specs.declared.refusal.Refusal.{Refusal}
use Rattle.rules.specs.Refusals.{row_of}
use Rattle.rules.specs.Table.{customers_fault}
use Rattle.rules.proofs.Rows.{customers-kept}
use Rattle.study.specs.declared.Load.{Load}
use Rattle.answers.specs.Answers.{by_number}
use Rattle.answers.proofs.Answered.{answered-done}
use Rattle.answers.proofs.ByNumber.{answered-by}
use Rattle.indices.specs.Figures.{customers_sum}
use Rattle.evaluation.specs.Figures.{figures_by}
use Rattle.evaluation.proofs.figures.figures_from.Goals as goal

-- without customers the answer is the refusal
figures-refused : (lower upper : List ℕ) (loads : List Load) (refusal : Refusal) → row_of refusal ≡ customers_fault (customers_sum loads)
    → Err (row_of refusal) ≡ figures_by lower upper loads
unfolding figures_by
figures-refused lower upper loads refusal fault = rw (← fault) (sym (answered-by Err _ refusal))

pub returns-in_err-customers_fault : goal.returns-in_err-customers_fault
returns-in_err-customers_fault c =
    let refusal = c.in_err-customers_fault.field-0.0 in
    let told : by_number c.from_residual.result ≡ Err (row_of refusal) = search rules in
    let fault = c.in_err-customers_fault.ensures ∙ ap customers_fault c.customers_sum-customers.ensures.is in
    told ∙ figures-refused _ _ _ refusal fault

pub figures_of-requires-clause-customers_nonzero : goal.figures_of-requires-clause-customers_nonzero
figures_of-requires-clause-customers_nonzero c = customers-kept _ (sym c.in_ok-customers_fault.ensures)

pub returns : goal.returns
unfolding figures_by
returns c =
    let none = sym (c.in_ok-customers_fault.ensures ∙ ap customers_fault c.customers_sum-customers.ensures.is) in
    ap Ok (rw (← c.customers_sum-customers.ensures.is) c.figures_of.ensures) ∙ sym (answered-done Err _ _ none)

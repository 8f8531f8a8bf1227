-- `evaluation::tree_paths::bound_paths` meets its contract: the page holds the list of the paths, and their number is the need.
use Rattle.std.proofs.Common.{rules, ◌≡◌, ◌∙◌, sym, ap, length, Err}
use Rattle.rules.specs.Refusals.{row_of}
use Rattle.answers.specs.Answers.{by_number}
use Rattle.rules.proofs.Judged.{some_row}
use Rattle.evaluation.specs.Rooms.{pair_fault}
use Rattle.evaluation.proofs.PairPut.{pair-room, pair-refused, pair-done}
use Rattle.evaluation.proofs.tree_paths.bound_paths.Goals as goal

pub returns-in_err-pair_fault : goal.returns-in_err-pair_fault
returns-in_err-pair_fault c =
    let refusal = c.in_err-pair_fault.field-0.0 in
    let told : by_number c.from_residual.result ≡ Err (row_of refusal) = search rules in
    let fault = c.in_err-pair_fault.ensures
    ∙ ap (λ need. pair_fault need (length c.args.lower.now) (length c.args.upper.now)) c.listed-listed.ensures.paths in
    rw told (pair-refused Err _ _ _ _ _ fault (some_row refusal))

pub path_bounds-requires : goal.path_bounds-requires
path_bounds-requires c = (pair-room (sym c.in_ok-pair_fault.ensures)).in_lower

pub path_bounds-requires-2 : goal.path_bounds-requires-2
path_bounds-requires-2 c = (pair-room (sym c.in_ok-pair_fault.ensures)).in_upper

pub returns : goal.returns
returns c =
    let own = c.listed-listed.ensures in
    let fault = c.in_ok-pair_fault.ensures
    ∙ ap (λ need. pair_fault need (length c.args.lower.now) (length c.args.upper.now)) own.paths in
    rw c.list_whole-number.ensures.number
    (pair-done Err _ _ _ _ _ (sym fault)
    (rw (own.entries, own.probabilities, own.components) at c.path_bounds.ensures)
    (rw (own.entries, own.probabilities, own.components) at c.path_bounds-2.ensures))

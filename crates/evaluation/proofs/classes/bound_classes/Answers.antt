-- `evaluation::classes::bound_classes` meets its contract: both slices are measured before either is written.
use Rattle.std.proofs.Common.{rules, ◌≡◌, sym, Err}
use Rattle.rules.specs.Refusals.{row_of}
use Rattle.answers.specs.Answers.{by_number}
use Rattle.rules.proofs.Judged.{some_row}
use Rattle.evaluation.proofs.PairPut.{pair-room, pair-refused, pair-done}
use Rattle.evaluation.proofs.classes.bound_classes.Goals as goal

pub returns-in_err-pair_fault : goal.returns-in_err-pair_fault
returns-in_err-pair_fault c =
    let refusal = c.in_err-pair_fault.field-0.0 in
    let told : by_number c.from_residual.result ≡ Err (row_of refusal) = search rules in
    rw told (pair-refused Err _ _ _ _ _ c.in_err-pair_fault.ensures (some_row refusal))

pub write_classes-requires : goal.write_classes-requires
write_classes-requires c =
    let room = pair-room (sym c.in_ok-pair_fault.ensures) in
    record { class_places_in_bounds = room.in_lower; class_places_in_bounds_2 = room.in_upper }

pub returns : goal.returns
returns c =
    pair-done Err _ _ _ _ _ (sym c.in_ok-pair_fault.ensures) c.write_classes.ensures.lower c.write_classes.ensures.upper

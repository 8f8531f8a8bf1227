-- `loss_calls::loads::load_breach` meets its contract: soundness is judged before the item.
use Rattle.rules.proofs.Judged.{some_row}
use Rattle.soundness.proofs.Judged.{unsound-first}
use Rattle.meaning.proofs.Judging.{handed-on}
use Rattle.loss_calls.proofs.Judged.{load-judged}
use Rattle.loss_calls.proofs.loads.load_breach.Goals as goal

pub returns-in_err-unsound_fault : goal.returns-in_err-unsound_fault
returns-in_err-unsound_fault c =
    let r = c.in_err-unsound_fault.field-0.0 in
    rw (handed-on _ r c.from_residual.ensures.1)
    (record { is = unsound-first _ c.is_sound.ensures c.in_err-unsound_fault.ensures _ (some_row r); has_load = λ none. absurd (some_row r none) })

pub returns : goal.returns
returns c = load-judged c.is_sound.ensures c.in_ok-unsound_fault.ensures c.item_fault.ensures

-- `meaning::judged_classes` meets its contract: 16 comes first, and a study without it is sound.
use Rattle.std.proofs.Common.{refl, sym, ◌∙◌}
use Rattle.rules.proofs.Judged.{some_row}
use Rattle.soundness.proofs.Judged.{unsound-first, sound-behind, next-first}
use Rattle.meaning.proofs.Judging.{handed-on}
use Rattle.meaning.proofs.judged_classes.Goals as goal

pub returns-in_err-unsound_fault : goal.returns-in_err-unsound_fault
returns-in_err-unsound_fault c =
    let r = c.in_err-unsound_fault.field-0.0 in
    rw (handed-on _ r c.from_residual.ensures.1)
    (record {
      is = unsound-first _ c.is_sound.ensures c.in_err-unsound_fault.ensures _ (some_row r);
      is_sound = λ none. absurd (some_row r none);
      tabled = λ none. absurd (some_row r none);
    })

pub put_classes-requires : goal.put_classes-requires
put_classes-requires c =
    record { sound = sound-behind _ c.is_sound.ensures c.in_ok-unsound_fault.ensures refl; most_joint_states_in_bounds = c.requires }

pub returns : goal.returns
returns c =
    let kept = c.in_ok-unsound_fault.ensures in
    let put = c.put_classes.ensures in
    record {
      is = put.is ∙ sym (next-first _ c.is_sound.ensures kept refl _);
      is_sound = λ none. sound-behind _ c.is_sound.ensures kept refl;
      tabled = put.tabled;
    }

-- What is known where a call for a load has no breach: the study is sound, and the load is one of its own.
use Rattle.std.proofs.Common.{ℕ, ◌≡◌, refl, sym, ◌∙◌, Bool}
use Rattle.rules.specs.Table.{unsound_fault, item_fault}
use Rattle.rules.proofs.Rows.{item-kept}
use Rattle.study.specs.declared.Study.{Study}
use Rattle.soundness.specs.Check.{sound}
use Rattle.soundness.proofs.Judged.{sound-behind, next-first}
use Rattle.loss_calls.specs.Losses.{LoadJudged}

-- the study is sound, and the load is judged
pub load-judged : {t : Study} {j fault : ℕ} {is_sound : Bool} → is_sound ≡ sound t → 0 ≡ unsound_fault is_sound → fault ≡ item_fault t.loads j
    → LoadJudged t j fault
load-judged {t} {j} is kept item =
    record {
      is = item ∙ sym (next-first t is kept refl (item_fault t.loads j));
      has_load = λ none. record { is_sound = sound-behind t is kept refl; below = item-kept t.loads j (sym item ∙ none) };
    }

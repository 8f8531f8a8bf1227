-- A study that is judged under a meaning: a breach is the first of any list that begins with 16 and the meaning, and where there is none the next decides.
use Rattle.std.proofs.Common.{ℕ, ◌≡◌, ap, sym, ◌∙◌, List, [], ◌∷◌, Result, Ok, Err, IsErrAnd}
use Rattle.rules.specs.declared.refusal.Refusal.{Refusal}
use Rattle.rules.specs.Breach.{first_breach}
use Rattle.rules.specs.Table.{unsound_fault}
use Rattle.rules.proofs.Kept.{list-last, part-broken, part-kept}
use Rattle.study.specs.declared.Study.{Study}
use Rattle.soundness.specs.Check.{sound}
use Rattle.meaning.specs.Meaning.{Meaning, meaning_fault, meant_breaches}
use Rattle.meaning.specs.Sources.{Judged}

-- a refusal that is handed on
pub handed-on : {A : Type 0} (answer : Result A Refusal) (r : Refusal) → IsErrAnd answer (λ e. e ≡ r) → answer ≡ Err r
handed-on (Ok a) r same = absurd same
handed-on (Err e) r same = ap Err same

module _ {m : Meaning} {t : Study} {was table : List ℕ} {breach : ℕ} (judged : Judged m t was table breach) where
  pub judged-first : (bs : List ℕ) → (breach ≡ 0 → ⊥) → breach ≡ first_breach (unsound_fault (sound t) ∷ meaning_fault m t ∷ bs)
  judged-first bs some = part-broken (meant_breaches m t) bs judged.is some

  pub judged-next : breach ≡ 0 → (b : ℕ) → first_breach (unsound_fault (sound t) ∷ meaning_fault m t ∷ b ∷ []) ≡ b
  judged-next none b = part-kept (meant_breaches m t) (b ∷ []) (sym judged.is ∙ none) ∙ list-last b

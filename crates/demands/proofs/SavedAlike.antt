-- Byte rows that give the same study but for the order of inputs are saved alike: the study that one opens to holds the other's inputs in order, and no other
-- study does. Those that are saved alike open to the same study, for what is written opens to it.
use mathlib.Core.Path.{◌≡◌, sym, ap, subst, ◌∙◌}
use mathlib.Core.List.{List}
use Prim.Native.Nat.{ℕ}
use Rattle.study.specs.declared.Study.{Study}
use Rattle.study_bytes.specs.Written.{study_bytes}
use Rattle.opening.specs.Laws.{IsOpened}
use Rattle.opening.specs.Opening.{as_given, opened}
use Rattle.opening.proofs.Opened.Study.{opened-shaped}
use Rattle.demands.specs.Edits.{opened as is-opened}
use Rattle.demands.specs.Saving.{SameButOrder, SavesAlike}
use Rattle.demands.proofs.Saved.{written-opens}
use Rattle.demands.proofs.Sorted.{opened-same, opened-in-order, but-order-sym, but-order-trans, only-sorted}

module _ (a b : List ℕ) (done : IsOpened a) (done' : IsOpened b) where
  same_study : SameButOrder (as_given a) (as_given b) → (opened a).study ≡ (opened b).study
  same_study same =
      only-sorted b done' (opened a).study (opened-shaped a) (but-order-trans (opened-same a done) same) (opened-in-order a done)

  no_others : study_bytes (opened a).study ≡ study_bytes (opened b).study → SameButOrder (as_given a) (as_given b)
  no_others alike =
      let back = (written-opens.due (opened a).study (is-opened a done)).opens.study in
      let back' = (written-opens.due (opened b).study (is-opened b done')).opens.study in
      let one : (opened a).study ≡ (opened b).study = sym back ∙ ap (λ (bytes : List ℕ). (opened bytes).study) alike ∙ back' in
      but-order-trans (but-order-sym (opened-same a done))
      (subst (λ (t : Study). SameButOrder t (as_given b)) (sym one) (opened-same b done'))

pub saves-alike : SavesAlike
saves-alike a b done done' =
    record {
      same_study = same_study a b done done';
      same_bytes = λ same. ap study_bytes (same_study a b done done' same);
      no_others = no_others a b done done';
    }

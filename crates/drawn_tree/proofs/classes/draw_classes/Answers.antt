-- `drawn_tree::classes::draw_classes` meets its contract: the tree is read with nothing asked, and then the bytes behind it are judged.
use Rattle.std.proofs.Common.{◌≡◌, ◌∙◌, ap, refl, sym, Result, Ok, Err, IfOk, IsErrAnd}
use Rattle.rules.specs.declared.refusal.Refusal.{Refusal}
use Rattle.rules.specs.Refusals.{row_of, breach_of}
use Rattle.drawn_tree.specs.Reading.{nothing_asked}
use Rattle.drawn_tree.proofs.Whole.{whole-refused, whole-ended, whole-classes}
use Rattle.drawn_tree.proofs.classes.draw_classes.Goals as goal

breach-handed : (answer : Result (Unit {0}) Refusal) (r : Refusal) → IsErrAnd answer (λ e. e ≡ r) → breach_of answer ≡ row_of r
breach-handed (Ok u) r same = absurd same
breach-handed (Err e) r same = ap row_of same

where-kept : {P : Type 0} (answer : Result (Unit {0}) Refusal) → (breach_of answer ≡ 0 → P) → IfOk answer (λ u. P)
where-kept (Ok u) h = h refl
where-kept (Err e) h = tt

pub returns-in_err-drawn-clause-fault : goal.returns-in_err-drawn-clause-fault
unfolding nothing_asked
returns-in_err-drawn-clause-fault c =
    breach-handed _ _ c.from_residual.ensures.1 ∙ whole-refused _ _ _ _ c.requires.block _ c.in_err-drawn.ensures.read

pub returns-clause-fault : goal.returns-clause-fault
unfolding nothing_asked
returns-clause-fault c = c.behind_fault.ensures ∙ whole-ended _ _ _ _ c.requires.block c.in_ok-drawn.ensures.read

pub returns-clause-classes : goal.returns-clause-classes
unfolding nothing_asked
returns-clause-classes c =
    where-kept c.behind_fault.result
    (λ kept. whole-classes _ _ _ _ c.requires.block c.in_ok-drawn.ensures.read (sym c.behind_fault.ensures ∙ kept))

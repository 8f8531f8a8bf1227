-- What a call that is not refused tells of its study and of its list of breaches: 16 heads every list, so the study is sound.
use Prim.Native.Nat.{ℕ}
use mathlib.Core.Path.{◌≡◌, refl, sym, ap, ◌∙◌}
use mathlib.Core.List.{List, ◌∷◌}
use lib.ListN.{drop}
use Rattle.rules.specs.Breach.{first_breach}
use Rattle.rules.specs.Table.{unsound_fault}
use Rattle.rules.proofs.Kept.{Neither, list-kept}
use Rattle.study.specs.declared.Study.{Study}
use Rattle.answers.specs.Told.{result}
use Rattle.answers.proofs.Answered.{no-breach, values-told}
use Rattle.soundness.specs.Check.{sound}
use Rattle.soundness.specs.Sound.{Sound}
use Rattle.soundness.proofs.Checked.{no-unsound}
use Rattle.demands.specs.Calls.{Call, an_edit, list_paths, path_bounds, class_bounds, load_bounds, figures, write_study}
use Rattle.demands.specs.Calls.{call_told, call_breaches, call_values}
use Rattle.demands.specs.Edits.{probabilities, customers, minutes}
use Rattle.demands.proofs.Refusals.{calls-refuse}

-- the breaches of a call behind 16
abbrev pub behind : Call → Study → List ℕ
behind c t = drop 1 (call_breaches c t)

-- 16 heads every list
pub headed : (c : Call) (t : Study) → call_breaches c t ≡ unsound_fault (sound t) ∷ behind c t
headed (an_edit (probabilities i p1 p2 p3)) t = refl
headed (an_edit (customers j n)) t = refl
headed (an_edit (minutes j n)) t = refl
headed (list_paths m buffer) t = refl
headed (path_bounds m lower upper) t = refl
headed (class_bounds m lower upper) t = refl
headed (load_bounds m j) t = refl
headed (figures m) t = refl
headed (write_study buffer) t = refl

pub record Finished (c : Call) (t : Study) (values : List ℕ) : Type 0 where
  pub none : first_breach (call_breaches c t) ≡ 0
  pub is_sound : Sound t
  pub none_behind : first_breach (behind c t) ≡ 0
  pub are : call_values c t ≡ values

pub finished : (c : Call) (t : Study) (values : List ℕ) → call_told c t ≡ result values → Finished c t values
finished c t values told =
    let is = (calls-refuse.refuses c t).answer in
    let none = no-breach _ (call_values c t) values is told in
    let both : Neither (unsound_fault (sound t)) (first_breach (behind c t)) = list-kept _ _ (sym (ap first_breach (headed c t)) ∙ none) in
    record {
      none = none;
      is_sound = no-unsound t both.left;
      none_behind = both.right;
      are = values-told _ (call_values c t) values is told;
    }

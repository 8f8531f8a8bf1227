-- What an edit answers where a breach stands, and where none does; and what the rules that it keeps tell: the record that it changes has a
-- place in the study.
use Rattle.std.proofs.Common.{◌≡◌, ◌<◌, ℕ, Bool, true, false, refl, sym, arith}
use Rattle.rules.specs.Breach.{refuse}
use Rattle.rules.specs.Limits.{most_components, most_loads}
use Rattle.rules.specs.Table.{unsound_fault, item_fault}
use Rattle.rules.proofs.Judged.{judged}
use Rattle.rules.proofs.Rows.{item-kept}
use Rattle.study.specs.declared.Study.{Study}
use Rattle.soundness.specs.Check.{sound}
use Rattle.answers.specs.Answers.{finished}
use Rattle.answers.proofs.Answered.{answered-done, answered-refused}
use Rattle.editing.specs.Edits.{edited, refused_edit}
use Rattle.soundness.specs.Sound.{Sound}
use Rattle.soundness.proofs.Checked.{check-refuses}
use Rattle.soundness.proofs.Ranges.{components-most, loads-most}

passed : (t : Study) → 0 ≡ unsound_fault (sound t) → Sound t
unfolding refuse
passed t kept = go (sound t) refl kept
  where
    go : (b : Bool) → sound t ≡ b → 0 ≡ unsound_fault b → Sound t
    go true e kept = check-refuses t e
    go false e kept = absurd (omega arith)

module _ (t : Study) (i : ℕ) (kept : 0 ≡ unsound_fault (sound t)) where
  pub component-there : 0 ≡ item_fault t.components i → i < most_components
  component-there is = omega (arith, components-most t (passed t kept), item-kept t.components i (sym is))

  pub load-there : 0 ≡ item_fault t.loads i → i < most_loads
  load-there is = omega (arith, loads-most t (passed t kept), item-kept t.loads i (sym is))

pub ruleset edits = (judged, component-there, load-there)

pub edited-refused : (breach : ℕ) (old new : Study) → (breach ≡ 0 → ⊥) → edited breach old new ≡ refused_edit old breach
unfolding edited
edited-refused breach old new = answered-refused (refused_edit old) breach (record { outcome = finished; study = new })

pub edited-done : (breach : ℕ) (old new : Study) → breach ≡ 0 → edited breach old new ≡ record { outcome = finished; study = new }
unfolding edited
edited-done breach old new = answered-done (refused_edit old) breach (record { outcome = finished; study = new })

-- What is known of a study and a load once they are judged.
use Rattle.std.specs.Prelude.{ℕ, ◌<◌, ◌≡◌, [], ◌∷◌}
use Rattle.rules.specs.Breach.{first_breach}
use Rattle.rules.specs.Table.{unsound_fault, item_fault}
use Rattle.study.specs.declared.Study.{Study}
use Rattle.soundness.specs.Check.{sound}
use Rattle.soundness.specs.Sound.{Sound}

-- the study is sound, and the load is one of its own
pub record HasLoad (t : Study) (j : ℕ) : Type 0 where
  pub is_sound : Sound t
  pub below : j < t.loads

-- 16, then 17
pub record LoadJudged (t : Study) (j breach : ℕ) : Type 0 where
  pub is : breach ≡ first_breach (unsound_fault (sound t) ∷ item_fault t.loads j ∷ [])
  pub has_load : breach ≡ 0 → HasLoad t j

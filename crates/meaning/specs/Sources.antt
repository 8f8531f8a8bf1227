-- The meaning of a call as the code holds it: where the classes come from.
use Rattle.std.specs.Prelude.{ℕ, ◌≡◌, List}
use Rattle.lists.specs.Rows.{put}
use Rattle.rules.specs.Breach.{first_breach}
use Rattle.study.specs.declared.Study.{Study}
use Rattle.soundness.specs.Sound.{Sound}
use Rattle.model.specs.Model.{classes_of}
use Rattle.meaning.specs.declared.Source.{Source}
use Rattle.meaning.specs.declared.Source.TheVariants.{Gates, Tree}
use Rattle.meaning.specs.Meaning.{Meaning, by_gates, by_tree, meaning_fault, model_of, meant_breaches}

abbrev pub meaning_of : Source → Meaning
meaning_of Gates = by_gates
meaning_of (Tree tree) = by_tree tree.now

-- the classes of all joint states stand at the front of a table, and nothing else of it is changed
pub record Tabled (m : Meaning) (t : Study) (was table : List ℕ) : Type 0 where
  pub holds : table ≡ put was 0 (classes_of (model_of m t))

-- a sound study is judged under a meaning
pub record ClassesPut (m : Meaning) (t : Study) (was table : List ℕ) (breach : ℕ) : Type 0 where
  pub is : breach ≡ meaning_fault m t
  pub tabled : breach ≡ 0 → Tabled m t was table

-- any study is
pub record Judged (m : Meaning) (t : Study) (was table : List ℕ) (breach : ℕ) : Type 0 where
  pub is : breach ≡ first_breach (meant_breaches m t)
  pub is_sound : breach ≡ 0 → Sound t
  pub tabled : breach ≡ 0 → Tabled m t was table

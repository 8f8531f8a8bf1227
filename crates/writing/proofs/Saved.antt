-- What a study that is written out answers and leaves, by the steps of the code.
use Rattle.std.proofs.Common.{◌≡◌, ◌+◌, ℕ, List, length, take, drop, sym}
use Rattle.std.proofs.Math.Seq.{take_at}
use Rattle.lists.specs.Rows.{put}
use Rattle.rules.specs.Table.{unsound_fault}
use Rattle.rules.proofs.Judged.{err_listed, ok_listed}
use Rattle.answers.proofs.ByNumber.{answered-by, answered-all, filled-by, filled-all}
use Rattle.study.specs.declared.Study.{Study}
use Rattle.soundness.specs.Check.{sound}
use Rattle.soundness.specs.Sound.{Sound}
use Rattle.soundness.proofs.Checked.{no-unsound}

-- a study that passes the check is sound
pub passed : (t : Study) → 0 ≡ unsound_fault (sound t) → Sound t
passed t kept = no-unsound t (sym kept)

pub ruleset saving = (err_listed, ok_listed, answered-by, answered-all, filled-by, filled-all, passed)

-- a text that was written at the front of a page is the page's front
pub front-text : (page : List ℕ) {page' text : List ℕ} {n : ℕ} → page' ≡ put page 0 text → n ≡ length text → take n page' ≡ text
unfolding put
front-text page {text = text} {n = n} written size = rw written (take_at text (drop (0 + length text) page) n (sym size))

-- What a judgement's refusal answers and leaves: it has a number, which is not 0, so that nothing is done.
use Rattle.std.proofs.Common.{ℕ, ◌≡◌, List, refl}
use Rattle.lists.specs.Rows.{put}
use Rattle.rules.specs.declared.refusal.Refusal.{Refusal}
use Rattle.rules.specs.Refusals.{row_of}
use Rattle.rules.proofs.Judged.{some_row}
use Rattle.answers.specs.Answered.{answered, filled}
use Rattle.answers.proofs.Answered.{answered-done, answered-refused, filled-done, filled-refused}

module _ {A : Type 0} (refused : ℕ → A) (done : A) where
  pub answered-by : (refusal : Refusal) → answered refused (row_of refusal) done ≡ refused (row_of refusal)
  answered-by refusal = answered-refused refused (row_of refusal) done (some_row refusal)

  pub answered-all : answered refused 0 done ≡ done
  answered-all = answered-done refused 0 done refl

module _ (values slice : List ℕ) where
  pub filled-by : (refusal : Refusal) → filled (row_of refusal) values slice ≡ slice
  filled-by refusal = filled-refused (row_of refusal) values slice (some_row refusal)

  pub filled-all : filled 0 values slice ≡ put slice 0 values
  filled-all = filled-done 0 values slice refl

-- for a function that judges and then does
pub ruleset by_number = (answered-by, answered-all, filled-by, filled-all)

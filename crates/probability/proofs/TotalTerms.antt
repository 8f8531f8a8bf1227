-- A total, with every entry in step.
use Prim.Native.Nat.{ℕ}
use mathlib.Core.Path.{◌≡◌}
use mathlib.Core.Bool.{Bool}
use mathlib.Core.List.{List}
use Rattle.lists.specs.Counting.{counted, sum_over}
use Rattle.lists.proofs.SumOver.{sum-over-those}
use Rattle.entries.specs.Entries.{class_borne}
use Rattle.probability.specs.Bounds.{path_bound, total}

module _ (rounding : ℕ) (probabilities : List ℕ) (n : ℕ) (keep : ℕ → Bool) where
  -- what an entry brings to the total: its bound, where its class is kept
  abbrev pub term : List ℕ → ℕ
  term entry = counted (keep (class_borne n entry)) (path_bound rounding probabilities n entry)

  pub total-terms : (entries : List (List ℕ)) → total rounding probabilities n keep entries ≡ sum_over term entries
  unfolding total
  total-terms entries = sum-over-those (λ (entry : List ℕ). keep (class_borne n entry)) (path_bound rounding probabilities n) entries

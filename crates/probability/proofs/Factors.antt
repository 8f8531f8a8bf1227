-- What carries the bound of a path: behind i components it is the bound of the path as far as these.
use Rattle.std.proofs.Common.{ℕ, ◌+◌, ◌<◌, ◌≤◌, ◌≡◌, List, refl, add-one, arith, length, get_or}
use Rattle.lists.proofs.Defaults.{get_or-inside}
use Rattle.units.specs.One.{one}
use Rattle.entries.specs.Entries.{blank_mark}
use Rattle.probability.specs.Bounds.{factored, path_bound}
use Rattle.probability.specs.Bounded.{Bounded}

module _ {rounding : ℕ} {probabilities entry : List ℕ} where
  pub factors-start : Bounded rounding probabilities 0 entry one
  unfolding path_bound
  factors-start = record { is = refl; most = omega arith }

  pub factors-more : {i bound r : ℕ} → Bounded rounding probabilities i entry bound → i < length entry
      → r ≡ factored rounding probabilities i (get_or entry i 0) bound → r ≤ one → Bounded rounding probabilities (i + 1) entry r
  unfolding path_bound
  factors-more {i} before inside e most =
      record { is = rw (add-one, ← before.is, get_or-inside entry i blank_mark 0 inside) e; most = most }

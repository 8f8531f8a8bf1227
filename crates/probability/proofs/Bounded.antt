-- What carries the bounds of all paths of a list: those of the paths below k are written.
use Prim.Native.Nat.{ℕ, ◌<◌}
use mathlib.Core.Path.{◌≡◌, sym, ap, ◌∙◌}
use mathlib.Core.List.{List, []}
use lib.ListN.{length, get_or, length-map}
use Rattle.lists.proofs.Maps.{get_or-map-inside}
use Rattle.probability.specs.Bounded.{Bounded}
use Rattle.probability.specs.Bounds.{path_bound}
use Rattle.entries.specs.Entries.{entry_at, entries_of}
use Rattle.probability.specs.Totals.{path_bounds}
use Rattle.entries.proofs.Entries.{entries-long, entry-is}

module _ (rounding : ℕ) (probabilities : List ℕ) (n : ℕ) (list : List ℕ) (paths : ℕ) where
  -- a bound for each path of the list
  abbrev pub bounds : List ℕ
  bounds = path_bounds rounding probabilities n (entries_of n paths list)

  pub bounds-long : length bounds ≡ paths
  unfolding path_bounds
  bounds-long = length-map (entries_of n paths list) (path_bound rounding probabilities n) ∙ entries-long n paths list

  -- that of entry k
  pub bound-is : {k bound : ℕ} → k < paths → Bounded rounding probabilities n (entry_at n list k) bound → bound ≡ get_or bounds k 0
  unfolding path_bounds
  bound-is {k} {bound} h bounded =
      bounded.is
      ∙ ap (path_bound rounding probabilities n) (sym (entry-is n paths list k h))
      ∙ sym (get_or-map-inside (path_bound rounding probabilities n) (entries_of n paths list) k [] 0 (rw (entries-long n paths list) h))

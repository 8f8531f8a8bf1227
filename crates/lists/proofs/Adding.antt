-- What carries a loop that adds up a value of each element: the first k are added.
use Prim.Native.Nat.{ℕ, zero, suc, ◌+◌, ◌<◌}
use mathlib.Core.Path.{◌≡◌}
use mathlib.Core.List.{List, [], ◌∷◌}
use native.Mathlib.Nat.{not-suc-le-zero, le_of_suc-le-suc}
use native.Mathlib.Numerals.{add-one}
use native.Mathlib.Omega.{arith}
use lib.ListN.{length, get_or, take}
use Rattle.lists.specs.Counting.{sum_over}
use Rattle.lists.specs.Tabulate.{tabulate}
use Rattle.lists.proofs.SumOver.{sum-over-append}

module _ {A : Type 0} (f : A → ℕ) where
  -- one element more
  pub add-next : (l : List A) (k : ℕ) (d : A) → k < length l → sum_over f (take (k + 1) l) ≡ sum_over f (take k l) + f (get_or l k d)
  unfolding sum_over
  add-next [] k d h = absurd (not-suc-le-zero h)
  add-next (x ∷ l) zero d h = omega arith
  add-next (x ∷ l) (suc k) d h =
      let rest = rw (add-one k) at (add-next l k d (le_of_suc-le-suc h)) in
      rw (add-one (suc k)) (omega (arith, rest))

  -- one value of a function more
  pub add-value : (g : ℕ → A) (k : ℕ) → sum_over f (tabulate g (k + 1)) ≡ sum_over f (tabulate g k) + f (g k)
  unfolding sum_over tabulate
  add-value g k = rw (add-one k) (omega (arith, sum-over-append f (tabulate g k) (g k ∷ [])))

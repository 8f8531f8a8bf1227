-- No bound of a path is above one, where no probability is, and no total above one for each path.
use Prim.Native.Nat.{ℕ, zero, suc, ◌*◌, ◌≤◌}
use mathlib.Core.Bool.{Bool, true, false, cond}
use mathlib.Core.List.{List}
use native.Mathlib.Nat.{mul-le-mul}
use native.Mathlib.Omega.{arith}
use lib.Dec.{eqb}
use lib.ListN.{length, get_or}
use Rattle.lists.proofs.SumOver.{counted-most, sum-over-most}
use Rattle.units.specs.One.{one}
use Rattle.units.specs.Rounding.{up, scale}
use Rattle.entries.specs.Entries.{blank_mark, class_borne}
use Rattle.probability.specs.Bounds.{factored, path_bound, total}
use Rattle.probability.specs.Probabilities.{AtMostOne}
use Rattle.probability.proofs.TotalTerms.{term, total-terms}

scale-most : (rounding a p : ℕ) → rounding ≤ up → a ≤ one → p ≤ one → scale rounding a p ≤ one
unfolding scale
scale-most rounding a p less most probability =
    let product : a * p ≤ one * one = mul-le-mul most probability in
    omega (arith, product)

module _ (rounding : ℕ) (less : rounding ≤ up) (probabilities : List ℕ) (probability : AtMostOne probabilities) (n : ℕ) where
  pub path-most : (i : ℕ) (entry : List ℕ) → path_bound rounding probabilities i entry ≤ one
  unfolding path_bound factored
  path-most zero entry = omega arith
  path-most (suc i) entry =
      go (eqb (get_or entry i blank_mark) blank_mark) (path_bound rounding probabilities i entry) _ (path-most i entry) (probability.each _)
    where
      go : (b : Bool) (bound p : ℕ) → bound ≤ one → p ≤ one → cond b bound (scale rounding bound p) ≤ one
      go true bound p most each = most
      go false bound p most each = scale-most rounding bound p less most each

  term-most : (keep : ℕ → Bool) (entry : List ℕ) → term rounding probabilities n keep entry ≤ one
  term-most keep entry = omega (arith, counted-most (keep (class_borne n entry)) (path_bound rounding probabilities n entry), path-most n entry)

  pub total-most : (keep : ℕ → Bool) (entries : List (List ℕ)) → total rounding probabilities n keep entries ≤ length entries * one
  total-most keep entries =
      rw (total-terms rounding probabilities n keep entries) (sum-over-most (term rounding probabilities n keep) one (term-most keep) entries)

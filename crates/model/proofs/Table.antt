-- The table of a good model's probabilities: what stands at the place of a state, and that nothing there is above one.
use Prim.Native.Nat.{ℕ, ◌+◌, ◌*◌, ◌<◌, ◌≤◌}
use mathlib.Core.Path.{◌≡◌, refl, ap, ◌∙◌}
use mathlib.Core.Bool.{Bool, true, false}
use mathlib.Core.List.{List, []}
use native.Mathlib.Omega.{arith}
use lib.Dec.{ltb}
use lib.ListN.{length, get_or}
use borrow.Author.Tests.{ltb-true, ltb-false}
use Rattle.lists.specs.Rows.{joined}
use Rattle.lists.proofs.Elements.{Every}
use Rattle.lists.proofs.Joined.{joined-long, joined-most}
use Rattle.lists.proofs.Rows.{row-place}
use Rattle.lists.proofs.SumBelow.{term-most}
use Rattle.units.specs.One.{one}
use Rattle.rules.specs.Limits.{most_states}
use Rattle.model.specs.Good.{Whole, StateProbabilities, Good}
use Rattle.model.specs.Model.{Model, components, probability_table}

-- no state of a component is above one
pub whole-most : {states : ℕ} {row : List ℕ} → Whole states row → (s : ℕ) → get_or row s 0 ≤ one
whole-most {states} {row} whole s = go (ltb s states) refl
  where
    go : (b : Bool) → ltb s states ≡ b → get_or row s 0 ≤ one
    go true has = rw whole.sums at (term-most (λ (s : ℕ). get_or row s 0) states s (ltb-true s states has))
    go false lacks = omega (arith, whole.lacking s (ltb-false s states lacks))

module _ {counts : List ℕ} {rows : List (List ℕ)} (known : StateProbabilities counts rows) where
  pub rows-wide : Every (λ (row : List ℕ). length row ≡ most_states) [] rows
  rows-wide k h = (known.whole k (omega (arith, h, known.rows))).places

  pub table-place : (k s : ℕ) → k < length counts → s < most_states → get_or (joined rows) (k * most_states + s) 0 ≡ get_or (get_or rows k []) s 0
  table-place k s h less = row-place most_states rows k s rows-wide (omega (arith, h, known.rows)) less

module _ (m : Model) (good : Good m) where
  pub table-long : length (probability_table m) ≡ components m * most_states
  unfolding probability_table
  table-long = joined-long most_states m.probabilities (rows-wide good.probabilities) ∙ ap (λ (n : ℕ). n * most_states) good.probabilities.rows

  pub table-most : (k : ℕ) → get_or (probability_table m) k 0 ≤ one
  unfolding probability_table
  table-most =
      joined-most one m.probabilities (λ k h. whole-most (good.probabilities.whole k (omega (arith, h, good.probabilities.rows))))

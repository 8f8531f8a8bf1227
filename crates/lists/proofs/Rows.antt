-- Rows of the same length, one behind the other: each stands where its number says.
use Prim.Native.Nat.{ℕ, zero, suc, ◌+◌, ◌*◌, ◌<◌}
use mathlib.Core.Path.{◌≡◌, refl, sym, ap, ◌∙◌}
use mathlib.Core.List.{List, [], ◌∷◌, ◌++◌}
use native.Mathlib.Nat.{not-suc-le-zero, le_of_suc-le-suc, zero-mul}
use native.Mathlib.Omega.{arith}
use lib.ListN.{length, get_or, take, drop}
use lib.Seq.{take_at, take-add, drop-append-add, get_or-take, get_or-drop}
use Rattle.lists.specs.Rows.{joined, row_at}
use Rattle.lists.specs.Tabulate.{tabulate}
use Rattle.lists.proofs.Elements.{Every}
use Rattle.lists.proofs.Joined.{joined-last}

module _ (width : ℕ) where
  pub row-at : (rows : List (List ℕ)) (k : ℕ) → Every (λ (row : List ℕ). length row ≡ width) [] rows → k < length rows
      → row_at width (joined rows) k ≡ get_or rows k []
  unfolding joined
  row-at [] k each h = absurd (not-suc-le-zero h)
  row-at (row ∷ rows) zero each h = rw zero-mul (take_at row (joined rows) width (each 0 (omega arith)))
  row-at (row ∷ rows) (suc k) each h =
      let first : length row ≡ width = each 0 (omega arith) in
      let place : suc k * width ≡ length row + k * width = omega (arith, first) in
      ap (λ (p : ℕ). take width (drop p (row ++ joined rows))) place
      ∙ ap (take width) (drop-append-add row (joined rows) (k * width))
      ∙ row-at rows k (λ i less. each (suc i) (omega arith)) (le_of_suc-le-suc h)

  -- place s of row k
  pub row-place : (rows : List (List ℕ)) (k s : ℕ) → Every (λ (row : List ℕ). length row ≡ width) [] rows → k < length rows → s < width
      → get_or (joined rows) (k * width + s) 0 ≡ get_or (get_or rows k []) s 0
  row-place rows k s each h less =
      sym (get_or-take width (drop (k * width) (joined rows)) s 0 less ∙ get_or-drop (k * width) (joined rows) s 0)
      ∙ ap (λ (row : List ℕ). get_or row s 0) (row-at rows k each h)

  -- the first rows of a table, one behind the other again
  pub rows-joined : (table : List ℕ) (n : ℕ) → joined (tabulate (row_at width table) n) ≡ take (n * width) table
  unfolding joined tabulate
  rows-joined table zero = rw zero-mul refl
  rows-joined table (suc n) =
      let places : n * width + width ≡ suc n * width = omega arith in
      joined-last (tabulate (row_at width table) n) (row_at width table n)
      ∙ ap (λ (l : List ℕ). l ++ row_at width table n) (rows-joined table n)
      ∙ sym (take-add (n * width) width table)
      ∙ ap (λ (k : ℕ). take k table) places

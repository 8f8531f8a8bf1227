-- How long lines are at most, by the digits of their numbers.
use Rattle.std.proofs.Common.{ℕ, ◌+◌, ◌*◌, ◌^◌, ◌<◌, ◌≤◌, ◌≡◌, refl, ap, ◌∙◌, List, [], ◌∷◌, length, length-append, arith}
use Rattle.lists.specs.Counting.{sum_over}
use Rattle.lists.specs.Rows.{joined}
use Rattle.lists.specs.Tabulate.{tabulate}
use Rattle.lists.proofs.Joined.{joined-short}
use Rattle.lists.proofs.Tabulated.{length-tabulate, get_or-tabulate}
use Rattle.text.specs.Lines.{field, number_line, bounds_end, bounds_line, item_line}
use Rattle.text.proofs.Decimals.{decimal-short}

-- pieces are as long as they are together
pub joined_length : (rows : List (List ℕ)) → length (joined rows) ≡ sum_over length rows
unfolding joined sum_over
joined_length [] = refl
joined_length (row ∷ rows) = length-append row (joined rows) ∙ ap (λ (n : ℕ). length row + n) (joined_length rows)

module _ (w : ℕ) (some : 1 ≤ w) where
  pub field-short : (n : ℕ) → n < 10 ^ w → length (field n) ≤ w + 1
  unfolding field sum_over
  field-short n h = rw (joined_length _) (omega (arith, decimal-short w n some h))

  pub number_short : (word : List ℕ) (n : ℕ) → n < 10 ^ w → length (number_line word n) ≤ length word + w + 2
  unfolding number_line sum_over
  number_short word n h = rw (joined_length _) (omega (arith, field-short n h))

  pub ending-short : (lower upper : ℕ) → lower < 10 ^ w → upper < 10 ^ w → length (bounds_end lower upper) ≤ w + w + 3
  unfolding bounds_end sum_over
  ending-short lower upper low high = rw (joined_length _) (omega (arith, field-short lower low, field-short upper high))

  pub bounds-short : (word : List ℕ) (lower upper : ℕ) → lower < 10 ^ w → upper < 10 ^ w → length (bounds_line word lower upper) ≤ length word + w + w + 3
  unfolding bounds_line sum_over
  bounds-short word lower upper low high = rw (joined_length _) (omega (arith, ending-short lower upper low high))

  -- the number of an item has its own digits
  pub item-short : (v : ℕ) (word : List ℕ) (n lower upper : ℕ) → length (field n) ≤ v + 1 → lower < 10 ^ w → upper < 10 ^ w
      → length (item_line word n lower upper) ≤ length word + v + w + w + 4
  unfolding item_line sum_over
  item-short v word n lower upper number low high = rw (joined_length _) (omega (arith, number, ending-short lower upper low high))

-- lines of at most so many bytes each
pub lines-short : (f : ℕ → List ℕ) (n width : ℕ) → ((k : ℕ) → k < n → length (f k) ≤ width) → length (joined (tabulate f n)) ≤ n * width
lines-short f n width each =
    let long = length-tabulate f n in
    let short = joined-short width (tabulate f n) (λ k h. let below : k < n = rw long at h in rw (get_or-tabulate f n k [] below) (each k below)) in
    rw long at short

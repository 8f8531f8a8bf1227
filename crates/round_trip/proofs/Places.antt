-- Places that are filled from the front, one by one: the first n hold what a list has there, and the others what stood there before.
use Prim.Native.Nat.{ℕ, ◌+◌, ◌-◌, ◌<◌, ◌≤◌}
use mathlib.Core.Path.{◌≡◌, refl, sym, ap, ◌∙◌}
use mathlib.Core.List.{List, ◌++◌}
use native.Mathlib.Nat.{zero-add}
use native.Mathlib.Numerals.{add-one}
use native.Mathlib.Omega.{arith}
use lib.ListN.{length, get_or, take, drop, set, replicate, length-replicate, get_or-replicate, length-drop, take-append-drop}
use lib.Seq.{length-take-le, get_or-drop, ext_get_or, take_at, paste-suc}

module _ {A : Type 0} (l before : List A) where
  -- l in front, and behind it what was before
  unfoldable pub filled_to : ℕ → List A
  filled_to n = take n l ++ drop n before

  pub filled-front : (n : ℕ) → n ≤ length l → take n (filled_to n) ≡ take n l
  unfolding filled_to
  filled-front n room = take_at (take n l) (drop n before) n (length-take-le n l room)

  module _ (d : A) (long : length l ≡ length before) where
    pub filled_next : (n : ℕ) → n < length l → set (filled_to n) n (get_or l n d) ≡ filled_to (n + 1)
    unfolding filled_to
    filled_next n inside = rw (add-one n) (rw (zero-add, zero-add) at (paste-suc before 0 l n d (omega (arith, long)) inside))

    -- behind the first n, nothing is left to fill
    pub filled-all : (n : ℕ) → ((k : ℕ) → n ≤ k → k < length l → get_or l k d ≡ get_or before k d) → filled_to n ≡ l
    unfolding filled_to
    filled-all n same =
        ap (λ (r : List A). take n l ++ r)
        (ext_get_or d (drop n before) (drop n l) (rw (length-drop n before, length-drop n l, long) refl)
        (λ k h.
        let inside : k < length before - n = rw (length-drop n before) at h in
        get_or-drop n before k d ∙ sym (same (n + k) (omega arith) (omega (arith, long))) ∙ sym (get_or-drop n l k d)))
        ∙ take-append-drop n l

-- ---- a row of numbers, in places that held 0

abbrev zeros : ℕ → List ℕ
zeros size = replicate size 0

module _ (size : ℕ) (l : List ℕ) where
  -- the first n of the row
  abbrev pub row_to : ℕ → List ℕ
  row_to n = filled_to l (zeros size) n

  module _ (long : length l ≡ size) where
    as_long : length l ≡ length (zeros size)
    as_long = long ∙ sym (length-replicate {A = ℕ} size 0)

    pub row_next : (n : ℕ) → n < size → set (row_to n) n (get_or l n 0) ≡ row_to (n + 1)
    row_next n inside = filled_next l (zeros size) 0 as_long n (omega (arith, long))

    pub row-all : (n : ℕ) → ((k : ℕ) → n ≤ k → k < size → get_or l k 0 ≡ 0) → row_to n ≡ l
    row-all n none =
        filled-all l (zeros size) 0 as_long n
        (λ k from h. let inside : k < size = rw long at h in none k from inside ∙ sym (get_or-replicate {A = ℕ} size k 0 0 inside))

-- Laws of the values of a function as a list.
use Prim.Native.Nat.{ℕ, zero, suc, ◌+◌, ◌<◌}
use mathlib.Core.Path.{◌≡◌, refl, sym, ap, ◌∙◌}
use mathlib.Core.List.{List, [], ◌∷◌}
use mathlib.Core.Logic.{⊎_elim}
use native.Mathlib.Nat.{not-suc-le-zero, le_of_suc-le-suc, eq-or-lt_of_le}
use native.Mathlib.Numerals.{add-one}
use native.Mathlib.Omega.{arith}
use lib.ListN.{length, get_or, length-append, get_or-append}
use lib.Seq.{get_or_at, ext_get_or}
use Rattle.lists.specs.Tabulate.{tabulate}

module _ {A : Type 0} where
  pub length-tabulate : (f : ℕ → A) (n : ℕ) → length (tabulate f n) ≡ n
  unfolding tabulate
  length-tabulate f zero = refl
  length-tabulate f (suc n) = length-append (tabulate f n) (f n ∷ []) ∙ ap (λ (k : ℕ). k + 1) (length-tabulate f n) ∙ add-one n

  pub get_or-tabulate : (f : ℕ → A) (n k : ℕ) (d : A) → k < n → get_or (tabulate f n) k d ≡ f k
  unfolding tabulate
  get_or-tabulate f zero k d h = absurd (not-suc-le-zero h)
  get_or-tabulate f (suc n) k d h =
      ⊎_elim
      (λ (last : k ≡ n). rw last (get_or_at (tabulate f n) (f n) [] d n (length-tabulate f n)))
      (λ (lower : k < n). get_or-append (tabulate f n) (f n ∷ []) d k (rw (length-tabulate f n) lower) ∙ get_or-tabulate f n k d lower)
      (eq-or-lt_of_le (le_of_suc-le-suc h))

  -- a list that has f's value at each place
  pub tabulated : (f : ℕ → A) (n : ℕ) (l : List A) (d : A) → length l ≡ n → ((k : ℕ) → k < n → get_or l k d ≡ f k) → l ≡ tabulate f n
  tabulated f n l d long at =
      ext_get_or d l (tabulate f n) (long ∙ sym (length-tabulate f n))
      (λ k h. at k (rw long at h) ∙ sym (get_or-tabulate f n k d (rw long at h)))

  -- two functions that agree below n
  pub tabulate-alike : (f g : ℕ → A) (n : ℕ) → ((k : ℕ) → k < n → f k ≡ g k) → tabulate f n ≡ tabulate g n
  unfolding tabulate
  tabulate-alike f g zero same = refl
  tabulate-alike f g (suc n) same = rw (tabulate-alike f g n (λ k h. same k (omega arith)), same n (omega arith)) refl

-- Laws of the classes that occur: each is a class, there are no more of them than classes or paths, and one can be listed after the other.
use Prim.Native.Nat.{ℕ, zero, suc, ◌+◌, ◌<◌, ◌≤◌}
use mathlib.Core.Path.{◌≡◌, refl, sym, ap}
use mathlib.Core.Bool.{Bool}
use mathlib.Core.List.{List, [], ◌∷◌}
use native.Mathlib.Decide.{dec_lt}
use native.Mathlib.Omega.{arith}
use lib.Dec.{eqb, ltb}
use lib.ListN.{length, get_or}
use borrow.Author.Tests.{lt-ltb, le-ltb, ne_eqb}
use Rattle.lists.specs.Counting.{sum, truth, count_true, sum_over}
use Rattle.lists.specs.Rows.{joined}
use Rattle.lists.specs.Tabulate.{tabulate}
use Rattle.lists.proofs.Elements.{Every}
use Rattle.lists.proofs.SumBelow.{sum_added, sum-most, sum-limit, sum-only}
use Rattle.lists.proofs.Sums.{truth-most, count_most}
use Rattle.entries.specs.Entries.{class_borne, class_places}
use Rattle.totals.specs.Places.{Placed}
use Rattle.report_lines.specs.Classes.{bearing, classes_with, classes_borne}
use Rattle.report_lines.specs.Listing.{class_with}
use Rattle.report_lines.proofs.Below.{below-every, below_rows, below-count, below_alike}

-- ---- how many they are

-- a path bears one class
one_class : (class n : ℕ) → sum (λ (c : ℕ). truth (eqb class c)) n ≤ 1
one_class class n = go (dec_lt class n)
  where
    go : Dec (class < n) → sum (λ (c : ℕ). truth (eqb class c)) n ≤ 1
    go (yes h) =
        rw (sum-only (λ (c : ℕ). truth (eqb class c)) n class h (λ c other. rw (ne_eqb class c (λ same. other (sym same))) refl))
        (truth-most (eqb class class))
    go (no h) =
        let none = sum-limit (λ (c : ℕ). truth (eqb class c)) 0 n (λ c less. rw (ne_eqb class c (λ same. omega arith)) (omega arith)) in
        omega (arith, none)

bearing-all : (n : ℕ) (entries : List (List ℕ)) (places : ℕ) → sum (bearing n entries) places ≤ length entries
unfolding bearing sum_over
bearing-all n [] places = omega (arith, sum-limit (λ (c : ℕ). 0) 0 places (λ c h. omega arith))
bearing-all n (entry ∷ entries) places =
    let own : ℕ → ℕ = λ c. truth (eqb (class_borne n entry) c) in
    let both : sum (bearing n (entry ∷ entries)) places ≡ sum own places + sum (bearing n entries) places =
    sum_added own (bearing n entries) places in
    omega (arith, both, one_class (class_borne n entry) places, bearing-all n entries places)

counted-most : (paths : ℕ → ℕ) (n : ℕ) → count_true (λ (c : ℕ). ltb 0 (paths c)) n ≤ sum paths n
unfolding count_true
counted-most paths n = sum-most (λ (c : ℕ). truth (ltb 0 (paths c))) paths n (λ c h. some (paths c))
  where
    some : (m : ℕ) → truth (ltb 0 m) ≤ m
    some zero = omega arith
    some (suc m) = omega (arith, truth-most (ltb 0 (suc m)))

module _ (n : ℕ) (entries : List (List ℕ)) where
  pub borne-class : Every (λ (c : ℕ). c < class_places) 0 (classes_borne n entries)
  unfolding classes_borne classes_with
  borne-class = below-every (λ (c : ℕ). ltb 0 (bearing n entries c)) class_places

  -- no more than there are classes
  pub borne-most : length (classes_borne n entries) ≤ class_places
  unfolding classes_borne classes_with
  borne-most =
      let occurs : ℕ → Bool = λ c. ltb 0 (bearing n entries c) in
      rw (below-count occurs class_places) (count_most occurs class_places)

  -- no more than there are paths
  pub borne-few : length (classes_borne n entries) ≤ length entries
  unfolding classes_borne classes_with
  borne-few =
      let occurs : ℕ → Bool = λ c. ltb 0 (bearing n entries c) in
      omega (arith, below-count occurs class_places, counted-most (bearing n entries) class_places, bearing-all n entries class_places)

  -- they are those with a count, where the paths are counted
  pub borne-counted : {d d' : List ℕ} → Placed class_places (bearing n entries) d d' → classes_with (λ (c : ℕ). get_or d' c 0) ≡ classes_borne n entries
  unfolding classes_borne classes_with
  borne-counted {d} {d'} counted = below_alike _ _ class_places (λ c h. ap (ltb 0) (counted.here c h))

-- ---- one after the other

pub with_rows : (paths : ℕ → ℕ) → classes_with paths ≡ joined (tabulate (λ (c : ℕ). class_with (paths c) c) class_places)
unfolding classes_with class_with
with_rows paths = below_rows (λ (c : ℕ). ltb 0 (paths c)) class_places

pub with_none : (paths c : ℕ) → paths ≡ 0 → class_with paths c ≡ []
unfolding class_with
with_none paths c none = rw (le-ltb 0 paths (omega (arith, none))) refl

pub with-some : (paths c : ℕ) → (paths ≡ 0 → ⊥) → class_with paths c ≡ c ∷ []
unfolding class_with
with-some paths c some = rw (lt-ltb 0 paths (omega (arith, some))) refl

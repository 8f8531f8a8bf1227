-- Distinct inputs go by their set. What carries it: a row without an input (`without`) has one distinct input less where that input stood there, and the same
-- where it did not; so two rows with one set lose the same inputs, one after the other.
use Prim.Native.Nat.{ℕ, zero, suc, ◌+◌, ◌≤◌}
use mathlib.Core.Path.{◌≡◌, refl, sym, ap, ◌∙◌}
use mathlib.Core.Bool.{Bool, true, false, not, ◌&&◌, ◌||◌, cond, false≢true}
use mathlib.Core.List.{List, [], ◌∷◌}
use native.Mathlib.Nat.{le_of_suc-le-suc, zero-add}
use native.Mathlib.Omega.{arith}
use lib.Dec.{ltb, eqb}
use lib.ListN.{length}
use borrow.Author.Tests.{eqb-true, eq-eqb, lt-ltb}
use Rattle.lists.specs.Counting.{truth, those, sum_over}
use Rattle.lists.proofs.Elements.{Every}
use Rattle.ordering.specs.Distinct.{same_input, stands_in, times_in, distinct, SameSet}
use Rattle.ordering.specs.Inputs.{Input, no_input, Alike}
use Rattle.ordering.specs.Laws.{EachOnce, DistinctBySet}

-- ---- the same input

both_true : (b c : Bool) → (b && c) ≡ true → (b ≡ true) × (c ≡ true)
both_true true c e = (refl, e)
both_true false c e = absurd (false≢true e)

pub same-told : (a b : Input) → same_input a b ≡ true → a ≡ b
unfolding same_input
same-told a b e =
    let both = both_true (eqb a.number b.number) (eqb a.mask b.mask) e in
    let number : a.number ≡ b.number = eqb-true a.number b.number both.0 in
    let mask : a.mask ≡ b.mask = eqb-true a.mask b.mask both.1 in
    λ i. record { number = number i; mask = mask i }

pub same_self : (a : Input) → same_input a a ≡ true
unfolding same_input
same_self a = rw (eq-eqb a.number a.number refl, eq-eqb a.mask a.mask refl) refl

-- what is the same as another is the other, so it stands where the other does
same-stands : (a b : Input) (row : List Input) → same_input a b ≡ true → stands_in a row ≡ stands_in b row
same-stands a b row same = ap (λ (c : Input). stands_in c row) (same-told a b same)

same-swapped : (a b : Input) → same_input a b ≡ same_input b a
same-swapped a b = go (same_input a b) refl (same_input b a) refl
  where
    go : (p : Bool) → same_input a b ≡ p → (q : Bool) → same_input b a ≡ q → same_input a b ≡ same_input b a
    go true same q back = rw (same-told a b same) refl
    go false other true back = rw (same-told b a back) refl
    go false other false back = other ∙ sym back

-- ---- a row without an input

abbrev without : Input → List Input → List Input
without a row = those (λ (b : Input). not (same_input a b)) row

-- it stands there no more
without-self : (a : Input) (row : List Input) → stands_in a (without a row) ≡ false
unfolding those stands_in
without-self a [] = refl
without-self a (c ∷ row) = go (same_input a c) refl (without-self a row)
  where
    go : (b : Bool) → same_input a c ≡ b → stands_in a (without a row) ≡ false → stands_in a (without a (c ∷ row)) ≡ false
    go true same rest = rw same rest
    go false other rest = rw (other, other) rest

-- every other does
without_other : (a b : Input) (row : List Input) → same_input a b ≡ false → stands_in b (without a row) ≡ stands_in b row
unfolding those stands_in
without_other a b [] apart = refl
without_other a b (c ∷ row) apart = go (same_input a c) refl (without_other a b row apart)
  where
    go : (p : Bool) → same_input a c ≡ p → stands_in b (without a row) ≡ stands_in b row → stands_in b (without a (c ∷ row)) ≡ stands_in b (c ∷ row)
    go true same rest =
        let next : same_input b c ≡ false = ap (same_input b) (sym (same-told a c same)) ∙ same-swapped b a ∙ apart in
        rw (same, next) rest
    go false other rest = rw other (ap (λ (s : Bool). same_input b c || s) rest)

either-false : (b c : Bool) → (b || c) ≡ false → (b ≡ false) × (c ≡ false)
either-false true c e = absurd (false≢true (sym e))
either-false false c e = (refl, e)

-- where it did not stand, nothing is gone
without-none : (a : Input) (row : List Input) → stands_in a row ≡ false → without a row ≡ row
unfolding those stands_in
without-none a [] none = refl
without-none a (c ∷ row) none =
    let neither = either-false (same_input a c) (stands_in a row) none in
    rw neither.0 (ap (λ (r : List Input). c ∷ r) (without-none a row neither.1))

-- where it stood, it is what is gone of the distinct ones
module _ (f : Input → ℕ) where
  distinct_without : (a : Input) (row : List Input) → stands_in a row ≡ true → sum_over f (distinct row) ≡ f a + sum_over f (distinct (without a row))
  unfolding those stands_in distinct sum_over
  distinct_without a [] stands = absurd (false≢true stands)
  distinct_without a (c ∷ row) stands = go (same_input a c) refl (stands_in c row) refl (distinct_without a row)
    where
      go : (p : Bool) → same_input a c ≡ p → (q : Bool) → stands_in c row ≡ q
          → (stands_in a row ≡ true → sum_over f (distinct row) ≡ f a + sum_over f (distinct (without a row)))
          → sum_over f (distinct (c ∷ row)) ≡ f a + sum_over f (distinct (without a (c ∷ row)))
      go true same true again rest = rw (same, again) (rest (same-stands a c row same ∙ again))
      go true same false last rest = rw (same, last, without-none a row (same-stands a c row same ∙ last), same-told a c same) refl
      go false other true again rest = rw (other, again, without_other a c row other, again) (rest (rw other at stands))
      go false other false last rest =
          let fewer = rest (rw other at stands) in
          rw (other, last, without_other a c row other, last) (omega (arith, fewer))

  -- ---- by the set alone

  pub distinct-by-set : (row other : List Input) → SameSet row other → sum_over f (distinct row) ≡ sum_over f (distinct other)
  unfolding stands_in distinct sum_over
  distinct-by-set [] [] set = refl
  distinct-by-set [] (b ∷ other) set = absurd (false≢true (set b ∙ rw (same_self b) refl))
  distinct-by-set (a ∷ row) other set = go (stands_in a row) refl (distinct-by-set row other) (distinct-by-set row (without a other))
    where
      -- all others stand in both
      others : (b : Input) → same_input b a ≡ false → stands_in b row ≡ stands_in b other
      others b apart = rw apart at (set b)

      go : (p : Bool) → stands_in a row ≡ p → (SameSet row other → sum_over f (distinct row) ≡ sum_over f (distinct other))
          → (SameSet row (without a other) → sum_over f (distinct row) ≡ sum_over f (distinct (without a other)))
          → sum_over f (distinct (a ∷ row)) ≡ sum_over f (distinct other)
      go true again rest fewer = rw again (rest (λ b. at b (same_input b a) refl))
        where
          at : (b : Input) (q : Bool) → same_input b a ≡ q → stands_in b row ≡ stands_in b other
          at b true same = same-stands b a row same ∙ again ∙ rw (same_self a) at (set a) ∙ sym (same-stands b a other same)
          at b false apart = others b apart
      go false last rest fewer = rw last (omega (arith, fewer (λ b. at b (same_input b a) refl), distinct_without a other here))
        where
          here : stands_in a other ≡ true
          here = sym (rw (same_self a) at (set a))

          at : (b : Input) (q : Bool) → same_input b a ≡ q → stands_in b row ≡ stands_in b (without a other)
          at b true same = same-stands b a row same ∙ last ∙ sym (same-stands b a (without a other) same ∙ without-self a other)
          at b false apart = others b apart ∙ sym (without_other a b other (same-swapped a b ∙ apart))

pub distinct-by-set-alone : DistinctBySet
distinct-by-set-alone row other set f = distinct-by-set f row other set

-- ---- each once

pub each-once : EachOnce
unfolding stands_in distinct sum_over
each-once a [] = refl
each-once a (c ∷ row) = go (same_input a c) refl (stands_in c row) refl (each-once a row)
  where
    go : (p : Bool) → same_input a c ≡ p → (q : Bool) → stands_in c row ≡ q
        → times_in a (distinct row) ≡ truth (stands_in a row)
        → times_in a (distinct (c ∷ row)) ≡ truth (stands_in a (c ∷ row))
    go true same true again rest = rw (again, same) (rest ∙ ap truth (same-stands a c row same ∙ again))
    go true same false last rest = rw (last, same) (rw (rest ∙ ap truth (same-stands a c row same ∙ last)) refl)
    go false other true again rest = rw (again, other) rest
    go false other false last rest = rw (last, other, zero-add) rest

-- ---- what holds the same inputs, each as often, has the same set

stands-counted : (a : Input) (row : List Input) → stands_in a row ≡ ltb 0 (times_in a row)
unfolding stands_in sum_over
stands-counted a [] = refl
stands-counted a (c ∷ row) = go (same_input a c) refl (stands-counted a row)
  where
    go : (p : Bool) → same_input a c ≡ p → stands_in a row ≡ ltb 0 (times_in a row)
        → stands_in a (c ∷ row) ≡ ltb 0 (times_in a (c ∷ row))
    go true same rest = rw same (sym (lt-ltb 0 (1 + times_in a row) (omega arith)))
    go false other rest = rw (other, zero-add) rest

pub alike_set : (row other : List Input) → Alike row other → SameSet row other
alike_set row other alike a = stands-counted a row ∙ ap (ltb 0) (alike (λ (b : Input). truth (same_input a b))) ∙ sym (stands-counted a other)

pub distinct-alike : (row other : List Input) → Alike row other → Alike (distinct row) (distinct other)
distinct-alike row other alike f = distinct-by-set f row other (alike_set row other alike)

-- there are no more of them than stand there, whether the first counts or not
pub first-most : (p : Bool) (a : Input) (counted row : List Input) → length counted ≤ length row → length (cond p counted (a ∷ counted)) ≤ length (a ∷ row)
first-most true a counted row most = omega arith
first-most false a counted row most = omega arith

pub distinct-most : (row : List Input) → length (distinct row) ≤ length row
unfolding distinct
distinct-most [] = omega arith
distinct-most (a ∷ row) = first-most (stands_in a row) a (distinct row) row (distinct-most row)

-- what holds of each input holds of each distinct one
pub distinct-every : (P : Input → Type 0) (row : List Input) → Every P no_input row → Every P no_input (distinct row)
unfolding distinct
distinct-every P [] each = each
distinct-every P (a ∷ row) each = go (stands_in a row) (distinct-every P row (λ k h. each (suc k) (omega arith)))
  where
    go : (p : Bool) → Every P no_input (distinct row) → Every P no_input (cond p (distinct row) (a ∷ distinct row))
    go true rest k h = rest k h
    go false rest zero h = each zero (omega arith)
    go false rest (suc k) h = rest k (le_of_suc-le-suc h)

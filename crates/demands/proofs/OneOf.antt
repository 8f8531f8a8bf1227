-- Which numbers a first breach can be: each row of the refusal table is its number or none, and the first of several is one of them.
use Prim.Native.Nat.{ℕ}
use mathlib.Core.Path.{◌≡◌, refl}
use mathlib.Core.Bool.{Bool, true, false, ◌||◌, cond, or-true}
use mathlib.Core.List.{List, [], ◌∷◌, ◌++◌}
use mathlib.Core.Logic.{inl, inr}
use lib.Dec.{eqb}
use borrow.Author.Tests.{eq-eqb}
use Rattle.lists.specs.OneOf.{OneOf}
use Rattle.rules.specs.Breach.{refuse, first, first_breach, unless_absent}

-- none, or one of these numbers
abbrev pub NoneOr : List ℕ → ℕ → Type 0
NoneOr numbers n = OneOf (0 ∷ numbers) n

pub of-refuse : (numbers : List ℕ) (n : ℕ) (broken : Bool) → OneOf numbers n → NoneOr numbers (refuse n broken)
unfolding refuse
of-refuse numbers n true here = inr here
of-refuse numbers n false here = inl refl

pub of-unless : (numbers : List ℕ) (absent value breach : ℕ) → NoneOr numbers breach → NoneOr numbers (unless_absent absent value breach)
unfolding unless_absent
of-unless numbers absent value breach here = go (eqb value absent)
  where
    go : (b : Bool) → NoneOr numbers (cond b 0 breach)
    go true = inl refl
    go false = here

pub of-first : (numbers : List ℕ) (a b : ℕ) → NoneOr numbers a → NoneOr numbers b → NoneOr numbers (first a b)
unfolding first
of-first numbers a b one other = go (eqb a 0)
  where
    go : (t : Bool) → NoneOr numbers (cond t b a)
    go true = other
    go false = one

pub of_none : (numbers : List ℕ) → NoneOr numbers (first_breach [])
unfolding first_breach
of_none numbers = inl refl

pub of-more : (numbers : List ℕ) (b : ℕ) (bs : List ℕ) → NoneOr numbers b → NoneOr numbers (first_breach bs) → NoneOr numbers (first_breach (b ∷ bs))
unfolding first_breach
of-more numbers b bs = of-first numbers b (first_breach bs)

-- whether a number is in a list, as a test that computes
abbrev pub among : List ℕ → ℕ → Bool
among [] n = false
among (k ∷ ks) n = eqb n k || among ks n

pub one-among : (numbers : List ℕ) (n : ℕ) → OneOf numbers n → among numbers n ≡ true
one-among [] n here = elim here [ ]
one-among (k ∷ ks) n (inl here) = rw (eq-eqb n k here)
one-among (k ∷ ks) n (inr there) = rw (one-among ks n there) (or-true (eqb n k))

-- one of the numbers of a part is one of all
pub one_left : (front behind : List ℕ) (n : ℕ) → OneOf front n → OneOf (front ++ behind) n
one_left [] behind n here = elim here [ ]
one_left (k ∷ ks) behind n (inl here) = inl here
one_left (k ∷ ks) behind n (inr there) = inr (one_left ks behind n there)

pub one_right : (front behind : List ℕ) (n : ℕ) → OneOf behind n → OneOf (front ++ behind) n
one_right [] behind n here = here
one_right (k ∷ ks) behind n here = inr (one_right ks behind n here)

pub more_left : (front behind : List ℕ) (n : ℕ) → NoneOr front n → NoneOr (front ++ behind) n
more_left front behind n (inl none) = inl none
more_left front behind n (inr here) = inr (one_left front behind n here)

pub more-before : (k : ℕ) (numbers : List ℕ) (n : ℕ) → NoneOr numbers n → NoneOr (k ∷ numbers) n
more-before k numbers n (inl none) = inl none
more-before k numbers n (inr here) = inr (inr here)

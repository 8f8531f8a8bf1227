-- Two readers that go alike: the second refuses where the first does, by the same row, and where the first gives a value it gives f of it and leaves
-- the same bytes.
use Prim.Native.Nat.{ℕ}
use mathlib.Core.Path.{◌≡◌, refl, sym, ap, ◌∙◌}
use mathlib.Core.Bool.{Bool, true, false, cond}
use mathlib.Core.List.{List}
use lib.Dec.{eqb}
use borrow.Author.Tests.{eqb-true}
use Rattle.reading.specs.Reader.{Read, refused, got, Reader, and_then, return, judge, ◌>>=◌, ◌>>◌}

pub record Alike {A B : Type 0} (f : A → B) (m : Reader A) (k : Reader B) : Type 0 where
  pub alike : (bytes : List ℕ) → k bytes ≡ and_then (m bytes) (λ a. return (f a))

-- with itself
pub alike_self : {A : Type 0} (m : Reader A) → Alike (λ (a : A). a) m m
alike_self {A} m = record { alike = λ bytes. go (m bytes) }
  where
    go : (r : Read A) → r ≡ and_then r (λ a. return a)
    go (refused n) = refl
    go (got a rest) = refl

pub alike_same : {A : Type 0} {m k : Reader A} → Alike (λ (a : A). a) m k → (bytes : List ℕ) → k bytes ≡ m bytes
alike_same {m = m} here bytes = here.alike bytes ∙ sym ((alike_self m).alike bytes)

pub alike-return : {A B : Type 0} {f : A → B} {a : A} {b : B} → b ≡ f a → Alike f (return a) (return b)
alike-return e = record { alike = λ bytes. ap (λ (b : _). got b bytes) e }

-- each goes on with what it gave
pub alike_then : {A B C D : Type 0} {e : A → B} {f : C → D} {m : Reader A} {k : Reader B} {g : A → Reader C} (h : B → Reader D) → Alike e m k
    → ((a : A) → Alike f (g a) (h (e a))) → Alike f (m >>= g) (k >>= h)
alike_then {A} {B} {e = e} {f = f} {m = m} {g = g} h here on =
    record { alike = λ bytes. ap (λ (r : Read B). and_then r h) (here.alike bytes) ∙ go (m bytes) }
  where
    go : (r : Read A) → and_then (and_then r (λ a. return (e a))) h ≡ and_then (and_then r g) (λ c. return (f c))
    go (refused n) = refl
    go (got a rest) = (on a).alike rest

-- the first goes on to another value, of which the second gives the same
pub alike-finished : {A B C : Type 0} {e : A → B} {f : C → B} {m : Reader A} {k : Reader B} (g : A → C) → Alike e m k → ((a : A) → e a ≡ f (g a))
    → Alike f (m >>= λ a. return (g a)) k
alike-finished {A} {e = e} {f = f} {m = m} g here same = record { alike = λ bytes. here.alike bytes ∙ go (m bytes) }
  where
    go : (r : Read A) → and_then r (λ a. return (e a)) ≡ and_then (and_then r (λ a. return (g a))) (λ c. return (f c))
    go (refused n) = refl
    go (got a rest) = ap (λ (b : _). got b rest) (same a)

-- a breach is judged by both, and where there is none they go on
pub alike-judge : {A B : Type 0} {f : A → B} {m : Reader A} {k : Reader B} (breach : ℕ) → (breach ≡ 0 → Alike f m k)
    → Alike f (judge breach >> m) (judge breach >> k)
alike-judge {f = f} {m = m} {k = k} breach kept = record { alike = λ bytes. go (eqb breach 0) refl bytes }
  where
    go : (b : Bool) → eqb breach 0 ≡ b → (bytes : List ℕ)
        → and_then (cond b (got (tt {0}) bytes) (refused breach)) (λ u. k)
        ≡ and_then (and_then (cond b (got (tt {0}) bytes) (refused breach)) (λ u. m)) (λ a. return (f a))
    go true none bytes = (kept (eqb-true breach 0 none)).alike bytes
    go false some bytes = refl

pub alike-cond : {A B : Type 0} {f : A → B} (b : Bool) {m m' : Reader A} {k k' : Reader B} → Alike f m k → Alike f m' k'
    → Alike f (cond b m m') (cond b k k')
alike-cond true here there = here
alike-cond false here there = there

-- What a reader takes is spelled by what it gives: the bytes of the value, and behind them those left, are the bytes that it was handed.
use Prim.Native.Nat.{ℕ}
use mathlib.Core.Path.{◌≡◌, refl, ap, subst, ◌∙◌}
use mathlib.Core.Bool.{Bool, true, false, cond}
use mathlib.Core.List.{List, [], ◌∷◌, ◌++◌, append_assoc}
use lib.Dec.{eqb}
use Rattle.reading.specs.Reader.{Read, refused, got, Reader, and_then, return, judge, byte_or, ◌>>=◌, ◌>>◌}

abbrev pub SpelledIn : {A : Type 0} → (A → List ℕ) → List ℕ → Read A → Type 0
SpelledIn spelling bytes (refused number) = Unit {0}
SpelledIn spelling bytes (got a rest) = spelling a ++ rest ≡ bytes

-- the bytes in `front` were taken before, and belong to the value
pub record Spells {A : Type 0} (front : List ℕ) (m : Reader A) (spelling : A → List ℕ) : Type 0 where
  pub spells : (bytes : List ℕ) → SpelledIn spelling (front ++ bytes) (m bytes)

pub spells_then : {A B : Type 0} {front : List ℕ} {first : A → List ℕ} {whole : B → List ℕ} {m : Reader A} {f : A → Reader B} → Spells [] m first
    → ((a : A) → Spells (front ++ first a) (f a) whole) → Spells front (m >>= f) whole
spells_then {A} {front = front} {first = first} {whole = whole} {m = m} {f = f} here on = record { spells = λ bytes. go bytes (m bytes) (here.spells bytes) }
  where
    go : (bytes : List ℕ) (r : Read A) → SpelledIn first bytes r → SpelledIn whole (front ++ bytes) (and_then r f)
    go bytes (refused n) e = tt
    go bytes (got a rest) e =
        subst (λ (l : List ℕ). SpelledIn whole l (f a rest)) (append_assoc front (first a) rest ∙ ap (λ (l : List ℕ). front ++ l) e) ((on a).spells rest)

pub spells-return : {A : Type 0} {front : List ℕ} {spelling : A → List ℕ} {a : A} → spelling a ≡ front → Spells front (return a) spelling
spells-return e = record { spells = λ bytes. ap (λ (l : List ℕ). l ++ bytes) e }

pub spells-byte : (end : ℕ) → Spells [] (byte_or end) (λ b. b ∷ [])
unfolding byte_or
spells-byte end = record { spells = go }
  where
    go : (bytes : List ℕ) → SpelledIn (λ b. b ∷ []) bytes (byte_or end bytes)
    go [] = tt
    go (b ∷ rest) = refl

-- a breach is judged, and where there is none the reading goes on
pub spells-judge : {A : Type 0} {front : List ℕ} {spelling : A → List ℕ} {m : Reader A} (breach : ℕ) → Spells front m spelling
    → Spells front (judge breach >> m) spelling
spells-judge {front = front} {spelling = spelling} {m = m} breach here = record { spells = λ bytes. go (eqb breach 0) bytes }
  where
    go : (b : Bool) (bytes : List ℕ) → SpelledIn spelling (front ++ bytes) (and_then (cond b (got (tt {0}) bytes) (refused breach)) (λ u. m))
    go true bytes = here.spells bytes
    go false bytes = tt

pub spells-cond : {A : Type 0} {front : List ℕ} {spelling : A → List ℕ} (b : Bool) {m k : Reader A} → (b ≡ true → Spells front m spelling)
    → (b ≡ false → Spells front k spelling) → Spells front (cond b m k) spelling
spells-cond true here there = here refl
spells-cond false here there = there refl

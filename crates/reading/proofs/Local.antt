-- What a front part of the bytes gives: it ends too soon, which is refused by the row `end`, or what it gives stands, whatever bytes follow.
use Prim.Native.Nat.{ℕ, zero, suc, ◌+◌}
use mathlib.Core.Path.{◌≡◌, refl, ap, subst, sym}
use mathlib.Core.Bool.{Bool, true, false, cond}
use mathlib.Core.List.{List, [], ◌∷◌, ◌++◌}
use mathlib.Core.Logic.{◌⊎◌, inl, inr}
use lib.Dec.{eqb}
use Rattle.lists.specs.Run.{each}
use Rattle.lists.specs.Bits.{bit}
use Rattle.rules.specs.Table.{short, stray_fault}
use Rattle.reading.specs.Reader.{Read, refused, got, Reader, and_then, return, judge, byte_or, byte, word, turn, repeat, ◌>>=◌, ◌>>◌}
use Rattle.reading.specs.Fields.{field_at, map_bits, map_byte, fields_by_map}

-- the same with more bytes behind
abbrev pub more : {A : Type 0} → List ℕ → Read A → Read A
more ys (refused n) = refused n
more ys (got a rest) = got a (rest ++ ys)

-- r is what a front part gives, and r' what the whole gives, which has ys behind the front part
abbrev pub Stands : {A : Type 0} → ℕ → List ℕ → Read A → Read A → Type 0
Stands end ys r r' = (r ≡ refused end) ⊎ (r' ≡ more ys r)

pub record Local {A : Type 0} (end : ℕ) (m : Reader A) : Type 0 where
  pub stands : (xs ys : List ℕ) → Stands end ys (m xs) (m (xs ++ ys))

-- a reading goes on after a front part as after the whole
then-stands : {end : ℕ} {A B : Type 0} (ys : List ℕ) (r r' : Read A) (f : A → Reader B) → ((a : A) → Local end (f a)) → Stands end ys r r'
    → Stands end ys (and_then r f) (and_then r' f)
then-stands ys r r' f on (inl e) = inl (ap (λ (q : Read _). and_then q f) e)
then-stands ys (refused n) r' f on (inr e) = inr (ap (λ (q : Read _). and_then q f) e)
then-stands {end = end} ys (got a rest) r' f on (inr e) =
    subst (λ (q : Read _). Stands end ys (f a rest) (and_then q f)) (sym e) ((on a).stands rest ys)

pub local-then : {end : ℕ} {A B : Type 0} {m : Reader A} {f : A → Reader B} → Local end m → ((a : A) → Local end (f a)) → Local end (m >>= f)
local-then {m = m} {f = f} here on = record { stands = λ xs ys. then-stands ys (m xs) (m (xs ++ ys)) f on (here.stands xs ys) }

pub local-return : {end : ℕ} {A : Type 0} (a : A) → Local end (return a)
local-return a = record { stands = λ xs ys. inr refl }

pub local-judge : {end : ℕ} (breach : ℕ) → Local end (judge breach)
local-judge breach = record { stands = λ xs ys. inr (go (eqb breach 0) xs ys) }
  where
    go : (b : Bool) (xs ys : List ℕ) → cond b (got (tt {0}) (xs ++ ys)) (refused breach) ≡ more ys (cond b (got (tt {0}) xs) (refused breach))
    go true xs ys = refl
    go false xs ys = refl

pub local-judged : {end : ℕ} {A B : Type 0} {m : Reader A} (rule : A → ℕ) (f : A → B) → Local end m → Local end (m >>= λ a. judge (rule a) >> return (f a))
local-judged rule f here = local-then here (λ a. local-then (local-judge (rule a)) (λ u. local-return (f a)))

byte-stands : (end : ℕ) (xs ys : List ℕ) → Stands end ys (byte_or end xs) (byte_or end (xs ++ ys))
unfolding byte_or
byte-stands end [] ys = inl refl
byte-stands end (b ∷ xs) ys = inr refl

pub local-byte-or : (end : ℕ) → Local end (byte_or end)
local-byte-or end = record { stands = byte-stands end }

pub local-byte : Local short byte
unfolding byte
local-byte = local-byte-or short

pub local-word : Local short word
unfolding word
local-word = local-then local-byte (λ b0. local-then local-byte (λ b1. local-then local-byte (λ b2. local-then local-byte (λ b3. local-return _))))

pub local-cond : {end : ℕ} {A : Type 0} (b : Bool) {m k : Reader A} → Local end m → Local end k → Local end (cond b m k)
local-cond true here there = here
local-cond false here there = there

run-stands : {end : ℕ} {A : Type 0} (step : ℕ → A → Reader A) → ((i : ℕ) (a : A) → Local end (step i a)) → (ys : List ℕ) (n i : ℕ) (r r' : Read A)
    → Stands end ys r r' → Stands end ys (each (turn step) n i r) (each (turn step) n i r')
unfolding each
run-stands step on ys zero i r r' h = h
run-stands step on ys (suc n) i r r' h =
    run-stands step on ys n (i + 1) (and_then r (step i)) (and_then r' (step i)) (then-stands ys r r' (step i) (on i) h)

pub local-repeat : {end : ℕ} {A : Type 0} (step : ℕ → A → Reader A) (n : ℕ) (a : A) → ((i : ℕ) (a : A) → Local end (step i a)) → Local end (repeat step n a)
local-repeat step n a on = record { stands = λ xs ys. run-stands step on ys n 0 (got a xs) (got a (xs ++ ys)) (inr refl) }

-- a record is read locally where each of its fields is
pub local-fields : {A : Type 0} (maps : ℕ) (field : ℕ → A → Reader A) (absent : A) → ((k : ℕ) (a : A) → Local short (field k a))
    → Local short (fields_by_map maps field absent)
unfolding map_byte
local-fields maps field absent on =
    local-then (local-judged (stray_fault maps) (λ map. map) local-byte)
    (λ map. local-repeat (field_at field map) map_bits absent (λ k a. local-cond (bit map k) (on k a) (local-return a)))

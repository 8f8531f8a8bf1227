-- Laws of a class that is read among other fields: what stands at a place, where the reading ends, and that it takes the bytes of the class that it gives. What
-- carries them: so many bytes are left or they are not, and of the bytes themselves only the laws of `ClassBytes`.
use Prim.Native.Nat.{ℕ, ◌+◌, ◌-◌, ◌<◌, ◌≤◌}
use mathlib.Core.Path.{◌≡◌, refl, sym, ap, subst, ◌∙◌}
use mathlib.Core.Bool.{Bool, true, false, cond}
use mathlib.Core.List.{List, [], ◌∷◌, ◌++◌}
use mathlib.Core.Logic.{inl, inr}
use native.Mathlib.Decide.{dec_lt}
use native.Mathlib.Omega.{arith}
use lib.Dec.{ltb}
use lib.ListN.{length, drop, length-append, length-drop, take-append-drop}
use lib.Seq.{drop-append-le, drop_at, drop-drop}
use borrow.Author.Tests.{lt-ltb, le-ltb}
use Rattle.reading.specs.Reader.{Read, refused, got, byte_or}
use Rattle.reading.proofs.Back.{Back}
use Rattle.reading.proofs.Ends.{EndsIn, Ends}
use Rattle.reading.proofs.Local.{Stands, Local, more}
use Rattle.reading.proofs.Spelled.{SpelledIn, Spells}
use Rattle.entries.specs.ClassReader.{class_or}
use Rattle.entries.specs.Entries.{class_code, class_bytes, class_read}
use Rattle.entries.proofs.ClassBytes.{code-long, code_read, read-front, read-code}

module _ (end : ℕ) where
  class-short : (bytes : List ℕ) → length bytes < class_bytes → class_or end bytes ≡ refused end
  unfolding class_or
  class-short bytes few = rw (lt-ltb (length bytes) class_bytes few) refl

  class-got : (bytes : List ℕ) → class_bytes ≤ length bytes → class_or end bytes ≡ got (class_read bytes) (drop class_bytes bytes)
  unfolding class_or
  class-got bytes enough = rw (le-ltb (length bytes) class_bytes enough) refl

  -- ---- at a place

  pub place_short : (s : List ℕ) (at : ℕ) → length s - at < class_bytes → class_or end (drop at s) ≡ refused end
  place_short s at few = class-short (drop at s) (rw length-drop few)

  pub place-got : (s : List ℕ) (at : ℕ) → at + class_bytes ≤ length s → class_or end (drop at s) ≡ got (class_read (drop at s)) (drop (at + class_bytes) s)
  place-got s at enough =
      class-got (drop at s) (rw length-drop (omega (arith, enough))) ∙ ap (got (class_read (drop at s))) (drop-drop class_bytes at s)

  -- ---- among other fields

  -- what it ends in
  pub ends-class : {R : ℕ → Type 0} {n : ℕ} → R end → Ends R n (class_or end) (λ (class left : ℕ). Unit {0})
  unfolding class_or
  ends-class {R} row = record { ends = λ bytes e. go (ltb (length bytes) class_bytes) bytes }
    where
      go : (b : Bool) (bytes : List ℕ)
          → EndsIn R (λ (class left : ℕ). Unit {0}) (cond b (refused end) (got (class_read bytes) (drop class_bytes bytes)))
      go true bytes = row
      go false bytes = tt

  -- what a front part gives stands whatever follows, unless it ends too soon
  pub local-class : Local end (class_or end)
  local-class = record { stands = λ xs ys. go xs ys (dec_lt (length xs) class_bytes) }
    where
      go : (xs ys : List ℕ) → Dec (length xs < class_bytes) → Stands end ys (class_or end xs) (class_or end (xs ++ ys))
      go xs ys (yes few) = inl (class-short xs few)
      go xs ys (no all) =
          let enough : class_bytes ≤ length xs = omega arith in
          inr (class-got (xs ++ ys) (omega (arith, length-append xs ys))
          ∙ ap (λ (class : ℕ). got class (drop class_bytes (xs ++ ys))) (read-front xs ys enough)
          ∙ ap (got (class_read xs)) (drop-append-le class_bytes xs ys enough)
          ∙ ap (more ys) (sym (class-got xs enough)))

  -- the bytes of a class are read as that class
  pub back-class : (class : ℕ) → Back (class_or end) (class_code class) class
  back-class class =
      record {
        back =
            λ rest.
            let bytes = class_code class ++ rest in
            class-got bytes (omega (arith, length-append (class_code class) rest, code-long class))
            ∙ ap (λ (c : ℕ). got c (drop class_bytes bytes)) (code_read class rest)
            ∙ ap (got class) (drop_at (class_code class) rest class_bytes (code-long class));
      }

  -- and no others
  pub spells-class : Spells [] (class_or end) class_code
  spells-class = record { spells = λ bytes. go bytes (dec_lt (length bytes) class_bytes) }
    where
      go : (bytes : List ℕ) → Dec (length bytes < class_bytes) → SpelledIn class_code bytes (class_or end bytes)
      go bytes (yes few) = subst (λ (r : Read ℕ). SpelledIn class_code bytes r) (sym (class-short bytes few)) tt
      go bytes (no all) =
          let enough : class_bytes ≤ length bytes = omega arith in
          subst (λ (r : Read ℕ). SpelledIn class_code bytes r) (sym (class-got bytes enough))
          (ap (λ (l : List ℕ). l ++ drop class_bytes bytes) (read-code bytes enough) ∙ take-append-drop class_bytes bytes)

-- The code reads a class as one byte.
pub class_or_byte : (end : ℕ) (bytes : List ℕ) → class_or end bytes ≡ byte_or end bytes
unfolding class_or class_read byte_or
class_or_byte end [] = refl
class_or_byte end (b ∷ rest) = class-got end (b ∷ rest) (omega arith)

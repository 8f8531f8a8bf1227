-- What a reader makes of n bytes: R holds of the number by which it refuses, or P of the value that it gives and of the number of bytes left.
use Prim.Native.Nat.{ℕ, zero, suc, ◌+◌, ◌%◌, ◌^◌, ◌<◌, ◌≤◌}
use mathlib.Core.Path.{◌≡◌, refl, ap, subst, sym}
use mathlib.Core.Bool.{Bool, true, false, cond}
use mathlib.Core.List.{List, [], ◌∷◌}
use native.Mathlib.Nat.{div-eq_of_lt, lt_of_not-le, not-le_of_lt, le_of_suc-le-suc, lt_of_le_of_lt}
use native.Mathlib.Omega.{arith}
use lib.Dec.{eqb, leb}
use lib.ListN.{length}
use lib.Pow.{pow_mono}
use borrow.Author.Tests.{eqb-true, eqb-false, leb-false}
use Rattle.lists.specs.Run.{each}
use Rattle.lists.specs.Bits.{digit, bit}
use Rattle.rules.specs.Table.{short, stray_fault}
use Rattle.rules.proofs.Kept.{refuse-kept}
use Rattle.reading.specs.Reader.{Read, refused, got, Reader, and_then, return, judge, byte_or, byte, word, turn, repeat, ◌>>=◌, ◌>>◌}
use Rattle.reading.specs.Fields.{field_at, map_bits, map_byte, fields_by_map}

-- what one reading ends in
abbrev pub EndsIn : {A : Type 0} → (ℕ → Type 0) → (A → ℕ → Type 0) → Read A → Type 0
EndsIn R P (refused number) = R number
EndsIn R P (got a rest) = P a (length rest)

-- what a reader ends in, whatever the n bytes are
pub record Ends {A : Type 0} (R : ℕ → Type 0) (n : ℕ) (m : Reader A) (P : A → ℕ → Type 0) : Type 0 where
  pub ends : (bytes : List ℕ) → length bytes ≡ n → EndsIn R P (m bytes)

-- a bit that stands is not above its number
bit_below : (map k : ℕ) → bit map k ≡ true → 2 ^ k ≤ map
bit_below map k e = le_of_suc-le-suc (lt_of_not-le high)
  where
    -- below bit k every digit from k on is 0
    high : suc map ≤ 2 ^ k → ⊥
    high h =
        let none : digit map k ≡ 0 = ap (λ (n : ℕ). n % 2) (div-eq_of_lt h) in
        omega (arith, none, eqb-true (digit map k) 1 e)

-- a bit with a meaning is one of so many
pub bit-meant : (bits k : ℕ) → 2 ^ k < 2 ^ bits → k < bits
bit-meant bits k h = lt_of_not-le (λ far. not-le_of_lt h (pow_mono far))

weaker-ends : {A : Type 0} (R : ℕ → Type 0) (P Q : A → ℕ → Type 0) → ((a : A) (left : ℕ) → P a left → Q a left) → (r : Read A) → EndsIn R P r → EndsIn R Q r
weaker-ends R P Q imply (refused number) h = h
weaker-ends R P Q imply (got a rest) h = imply a (length rest) h

module _ {R : ℕ → Type 0} where
  then-ends : {A B : Type 0} (P : A → ℕ → Type 0) (Q : B → ℕ → Type 0) (r : Read A) (f : A → Reader B) → EndsIn R P r
      → ((a : A) (left : ℕ) → P a left → Ends R left (f a) Q) → EndsIn R Q (and_then r f)
  then-ends P Q (refused number) f h on = h
  then-ends P Q (got a rest) f h on = (on a (length rest) h).ends rest refl

  pub ends-then : {A B : Type 0} {n : ℕ} {P : A → ℕ → Type 0} {Q : B → ℕ → Type 0} {m : Reader A} {f : A → Reader B} → Ends R n m P
      → ((a : A) (left : ℕ) → P a left → Ends R left (f a) Q) → Ends R n (m >>= f) Q
  ends-then {P = P} {Q = Q} {m = m} {f = f} here on = record { ends = λ bytes e. then-ends P Q (m bytes) f (here.ends bytes e) on }

  pub ends_return : {A : Type 0} {n : ℕ} {P : A → ℕ → Type 0} {a : A} → P a n → Ends R n (return a) P
  ends_return {P = P} {a = a} h = record { ends = λ bytes e. subst (P a) (sym e) h }

  pub ends-weaker : {A : Type 0} {n : ℕ} {P Q : A → ℕ → Type 0} {m : Reader A} → ((a : A) (left : ℕ) → P a left → Q a left) → Ends R n m P → Ends R n m Q
  ends-weaker {P = P} {Q = Q} {m = m} imply here = record { ends = λ bytes e. weaker-ends R P Q imply (m bytes) (here.ends bytes e) }

  pub ends-byte-or : (end n : ℕ) → (n ≡ 0 → R end) → Ends R n (byte_or end) (λ (b left : ℕ). n ≡ suc left)
  unfolding byte_or
  ends-byte-or end n none = record { ends = go }
    where
      go : (bytes : List ℕ) → length bytes ≡ n → EndsIn R (λ (b left : ℕ). n ≡ suc left) (byte_or end bytes)
      go [] e = none (sym e)
      go (b ∷ rest) e = sym e

  pub ends-byte : (n : ℕ) → (n ≡ 0 → R short) → Ends R n byte (λ (b left : ℕ). n ≡ suc left)
  unfolding byte
  ends-byte = ends-byte-or short

  pub ends-word : (n : ℕ) → (n < 4 → R short) → Ends R n word (λ (w left : ℕ). n ≡ 4 + left)
  unfolding word
  ends-word n few =
      ends-then (ends-byte n (λ none. few (omega arith)))
      (λ b0 n1 e1.
      ends-then (ends-byte n1 (λ none. few (omega arith)))
      (λ b1 n2 e2.
      ends-then (ends-byte n2 (λ none. few (omega arith)))
      (λ b2 n3 e3. ends-then (ends-byte n3 (λ none. few (omega arith))) (λ b3 left e. ends_return (omega arith)))))

  -- a breach is judged, and where there is none the reading goes on
  pub ends-judge : {A : Type 0} {n : ℕ} {P : A → ℕ → Type 0} {m : Reader A} (breach : ℕ) → ((breach ≡ 0 → ⊥) → R breach) → (breach ≡ 0 → Ends R n m P)
      → Ends R n (judge breach >> m) P
  ends-judge {n = n} {P = P} {m = m} breach broken kept = record { ends = λ bytes e. go (eqb breach 0) refl bytes e }
    where
      go : (b : Bool) → eqb breach 0 ≡ b → (bytes : List ℕ) → length bytes ≡ n → EndsIn R P (and_then (cond b (got (tt {0}) bytes) (refused breach)) (λ u. m))
      go true t bytes e = (kept (eqb-true breach 0 t)).ends bytes e
      go false t bytes e = broken (eqb-false breach 0 t)

  pub ends-cond : {A : Type 0} {n : ℕ} {P : A → ℕ → Type 0} (b : Bool) {m k : Reader A} → (b ≡ true → Ends R n m P) → (b ≡ false → Ends R n k P)
      → Ends R n (cond b m k) P
  ends-cond true here there = here refl
  ends-cond false here there = there refl

  -- a step that takes P at i to P at i + 1 takes it from 0 to the number of turns
  run_ends : {A : Type 0} (P : ℕ → A → ℕ → Type 0) (step : ℕ → A → Reader A) (turns i : ℕ)
      → ((k : ℕ) (a : A) (left : ℕ) → k < i + turns → P k a left → Ends R left (step k a) (P (k + 1))) → (r : Read A) → EndsIn R (P i) r
      → EndsIn R (P (i + turns)) (each (turn step) turns i r)
  unfolding each
  run_ends P step zero i on r h = subst (λ (k : ℕ). EndsIn R (P k) r) (omega arith) h
  run_ends P step (suc turns) i on r h =
      subst (λ (k : ℕ). EndsIn R (P k) (each (turn step) turns (i + 1) (and_then r (step i)))) (omega arith)
      (run_ends P step turns (i + 1) (λ k a left less p. on k a left (omega arith) p) (and_then r (step i))
      (then-ends (P i) (P (i + 1)) r (step i) h (λ a left p. on i a left (omega arith) p)))

  pub ends-repeat : {A : Type 0} {n : ℕ} (P : ℕ → A → ℕ → Type 0) (step : ℕ → A → Reader A) (turns : ℕ) (a : A)
      → ((k : ℕ) (a : A) (left : ℕ) → k < turns → P k a left → Ends R left (step k a) (P (k + 1))) → P 0 a n → Ends R n (repeat step turns a) (P turns)
  ends-repeat P step turns a on p =
      record {
        ends =
            λ bytes e.
            subst (λ (k : ℕ). EndsIn R (P k) (each (turn step) turns 0 (got a bytes))) (omega arith)
            (run_ends P step turns 0 (λ k a left less q. on k a left (omega arith) q) (got a bytes) (subst (P 0 a) (sym e) p));
      }

  -- a record whose fields, read from bit 0 upwards, take P from bit to bit; a bit that is clear must take it too. Only bits with a meaning stand.
  pub ends-fields : {A : Type 0} {n : ℕ} (P : ℕ → A → ℕ → Type 0) (maps : ℕ) (field : ℕ → A → Reader A) (absent : A) → (n ≡ 0 → R short)
      → ((map : ℕ) → (stray_fault maps map ≡ 0 → ⊥) → R (stray_fault maps map)) → ((left : ℕ) → n ≡ suc left → P 0 absent left)
      → ((k : ℕ) (a : A) (left : ℕ) → 2 ^ k < maps → P k a left → Ends R left (field k a) (P (k + 1)))
      → ((k : ℕ) (a : A) (left : ℕ) → P k a left → P (k + 1) a left) → Ends R n (fields_by_map maps field absent) (P map_bits)
  unfolding map_byte
  ends-fields {n = n} P maps field absent none stray start stands clear =
      ends-then {P = λ map left. (map < maps) × (n ≡ suc left)}
      (ends-then (ends-byte n none)
      (λ map left e. ends-judge (stray_fault maps map) (stray map) (λ kept. ends_return (leb-false maps map (refuse-kept _ (leb maps map) kept), e))))
      (λ map left p.
      ends-repeat P (field_at field map) map_bits absent
      (λ k a left less q.
      ends-cond (bit map k) (λ e. stands k a left (lt_of_le_of_lt (bit_below map k e) p.0) q) (λ e. ends_return (clear k a left q)))
      (start left p.1))

-- How many bytes a reader takes, and what it refuses by: row 1, short, only where bytes are missing, and otherwise one of the rows 2 to 15.
use Prim.Native.Nat.{ℕ, suc, ◌+◌, ◌*◌, ◌^◌, ◌<◌, ◌≤◌}
use mathlib.Core.Path.{◌≡◌, refl}
use mathlib.Core.Bool.{Bool, true, false}
use native.Mathlib.Nat.{mul-le-mul_right}
use native.Mathlib.Omega.{arith}
use lib.Dec.{T, leb, lit≤}
use Rattle.rules.specs.Breach.{refuse, outside}
use Rattle.rules.specs.Table.{short}
use Rattle.rules.proofs.Kept.{Within, range-kept}
use Rattle.reading.specs.Reader.{Reader, return, judge, byte, word, repeat, ◌>>=◌, ◌>>◌}
use Rattle.reading.specs.Fields.{map_bits, fields_by_map}
use Rattle.reading.proofs.Ends.{Ends, ends-then, ends_return, ends-weaker, ends-byte, ends-word, ends-judge, ends-repeat, ends-fields}

-- a refusal by one of the rows 1 to 15; by 1 only where `Short` holds
pub record Refusal (Short : Type 0) (number : ℕ) : Type 0 where
  pub row : Within 1 15 number
  pub too_short : number ≡ short → Short

-- the breach of a row that judges what was read: 2 to 15, or none
pub record Judges (breach : ℕ) : Type 0 where
  pub row : (breach ≡ 0 → ⊥) → Within 2 15 breach

row-judges : (number : ℕ) (broken : Bool) → Within 2 15 number → (refuse number broken ≡ 0 → ⊥) → Within 2 15 (refuse number broken)
unfolding refuse
row-judges number true row some = row
row-judges number false row some = absurd (some refl)

pub judges : (row : ℕ) (broken : Bool) → T (leb (suc (suc row)) 15) → Judges (refuse (suc (suc row)) broken)
judges row broken last = record { row = row-judges (suc (suc row)) broken (record { least = omega arith; most = lit≤ last }) }

-- a reader that takes at most k bytes: it is refused as too short only where fewer are there, and what it gives took no more
pub record Takes {A : Type 0} (Short : Type 0) (k : ℕ) (m : Reader A) : Type 0 where
  pub takes : (n : ℕ) → (n < k → Short) → Ends (Refusal Short) n m (λ a left. n ≤ k + left)

-- the first of n bytes counts from 1 to `most`
pub record Counts (n most count left : ℕ) : Type 0 where
  pub within : Within 1 most count
  pub taken : n ≡ suc left

module _ {Short : Type 0} where
  too_few : Short → Refusal Short short
  too_few few = record { row = record { least = omega arith; most = omega arith }; too_short = λ e. few }

  broken : {breach : ℕ} → Judges breach → (breach ≡ 0 → ⊥) → Refusal Short breach
  broken judged some =
      let row = judged.row some in
      record { row = record { least = omega arith; most = row.most }; too_short = λ e. absurd (omega arith) }

  -- a breach of such a row is judged, and where there is none the reading goes on
  pub ends-row : {A : Type 0} {n : ℕ} {P : A → ℕ → Type 0} {m : Reader A} (breach : ℕ) → Judges breach → (breach ≡ 0 → Ends (Refusal Short) n m P)
      → Ends (Refusal Short) n (judge breach >> m) P
  ends-row breach judged kept = ends-judge breach (broken judged) kept

  pub ends-count : {n : ℕ} (row most : ℕ) → T (leb (suc (suc row)) 15) → (n < 1 → Short)
      → Ends (Refusal Short) n (byte >>= λ b. judge (refuse (suc (suc row)) (outside 1 most b)) >> return b) (Counts n most)
  ends-count {n} row most last few =
      ends-then (ends-byte n (λ none. too_few (few (omega arith))))
      (λ b left taken.
      ends-row _ (judges row _ last) (λ kept. ends_return (record { within = range-kept (suc row) 1 most b kept; taken = taken })))

  -- A record, of which `before k a` bytes stand before bit k once a is read: each field takes no more than its share of them.
  pub ends-record : {A : Type 0} {n : ℕ} (before : ℕ → A → ℕ) (need maps : ℕ) (field : ℕ → A → Reader A) (absent : A) → 1 ≤ before 0 absent
      → ((k : ℕ) (a : A) → before k a ≤ before (k + 1) a)
      → ((k : ℕ) (a : A) (left : ℕ) → 2 ^ k < maps → (before k a + left < need → Short)
      → Ends (Refusal Short) left (field k a) (λ b rest. before k a + left ≤ before (k + 1) b + rest))
      → 0 < need → (n < need → Short) → Ends (Refusal Short) n (fields_by_map maps field absent) (λ a left. n ≤ before map_bits a + left)
  ends-record {n = n} before need maps field absent start grows on some few =
      ends-fields (λ k a left. n ≤ before k a + left) maps field absent (λ none. too_few (few (omega arith))) (λ map. broken (judges _ _ tt))
      (λ left e. omega arith)
      (λ k a left meant taken. ends-weaker (λ b rest h. omega arith) (on k a left meant (λ less. few (omega arith))))
      (λ k a left taken. omega (arith, grows k a))

  pub takes-byte : Takes Short 1 byte
  takes-byte = record { takes = λ n few. ends-weaker (λ b left e. omega arith) (ends-byte n (λ none. too_few (few (omega arith)))) }

  pub takes-return : {A : Type 0} (a : A) → Takes Short 0 (return a)
  takes-return a = record { takes = λ n few. ends_return (omega arith) }

  pub takes-then : {A B : Type 0} {k l : ℕ} {m : Reader A} {f : A → Reader B} → Takes Short k m → ((a : A) → Takes Short l (f a))
      → Takes Short (k + l) (m >>= f)
  takes-then here on =
      record {
        takes =
            λ n few.
            ends-then (here.takes n (λ less. few (omega arith)))
            (λ a left taken. ends-weaker (λ b rest h. omega arith) ((on a).takes left (λ less. few (omega arith))));
      }

  pub takes-weaker : {A : Type 0} {k l : ℕ} {m : Reader A} → k ≤ l → Takes Short k m → Takes Short l m
  takes-weaker more here = record { takes = λ n few. ends-weaker (λ a left h. omega arith) (here.takes n (λ less. few (omega arith))) }

  pub takes-judge : {A : Type 0} {k : ℕ} {m : Reader A} (breach : ℕ) → Judges breach → Takes Short k m → Takes Short k (judge breach >> m)
  takes-judge breach judged here = record { takes = λ n few. ends-row breach judged (λ kept. here.takes n few) }

  pub takes-judged : {A B : Type 0} {k : ℕ} {m : Reader A} (rule : A → ℕ) (f : A → B) → ((a : A) → Judges (rule a)) → Takes Short k m
      → Takes Short k (m >>= λ a. judge (rule a) >> return (f a))
  takes-judged rule f judged here =
      takes-weaker (omega arith) (takes-then here (λ a. takes-judge (rule a) (judged a) (takes-return (f a))))

  pub takes-word : Takes Short 4 word
  takes-word = record { takes = λ n few. ends-weaker (λ w left e. omega arith) (ends-word n (λ less. too_few (few less))) }

  pub takes-repeat : {A : Type 0} {k : ℕ} (step : ℕ → A → Reader A) (turns : ℕ) (a : A) → ((i : ℕ) (a : A) → Takes Short k (step i a))
      → Takes Short (turns * k) (repeat step turns a)
  takes-repeat {k = k} step turns a on =
      record {
        takes =
            λ n few.
            ends-repeat (λ i a left. n ≤ i * k + left) step turns a
            (λ i a left less taken.
            let within = mul-le-mul_right k less in
            ends-weaker (λ b rest h. omega arith) ((on i a).takes left (λ fewer. few (omega arith)))) (omega arith);
      }

-- What holds of a value that was read: a reading that is not refused has kept each rule that it judged.
use Prim.Native.Nat.{ℕ, ◌+◌, ◌^◌, ◌<◌}
use mathlib.Core.Path.{◌≡◌, refl}
use mathlib.Core.Bool.{Bool, true, false, cond}
use mathlib.Core.List.{List}
use lib.ListN.{length}
use Rattle.reading.specs.Reader.{Read, refused, got, Reader, return, judge, repeat, ◌>>=◌, ◌>>◌}
use Rattle.reading.specs.Fields.{map_bits, fields_by_map}
use Rattle.reading.proofs.Ends.{EndsIn, Ends, ends-then, ends_return, ends-weaker, ends-judge, ends-cond, ends-repeat, ends-fields}

-- anything may be read
abbrev pub Any : {A : Type 0} → A → Type 0
Any a = Unit {0}

-- P holds of the value, if there is one
abbrev pub Held : {A : Type 0} → (A → Type 0) → Read A → Type 0
Held P r = EndsIn Any (λ a left. P a) r

pub record Gives {A : Type 0} (m : Reader A) (P : A → Type 0) : Type 0 where
  pub gives : (n : ℕ) → Ends Any n m (λ a left. P a)

pub held : {A : Type 0} {m : Reader A} {P : A → Type 0} → Gives m P → (bytes : List ℕ) → Held P (m bytes)
held here bytes = (here.gives (length bytes)).ends bytes refl

-- what a reading ends in, and what holds of its value besides
with-held : {A : Type 0} (R : ℕ → Type 0) (P : A → ℕ → Type 0) (Q : A → Type 0) (r : Read A) → EndsIn R P r → Held Q r → EndsIn R (λ a left. P a left × Q a) r
with-held R P Q (refused n) h q = h
with-held R P Q (got a rest) h q = (h, q)

pub ends_with : {A : Type 0} {R : ℕ → Type 0} {n : ℕ} {m : Reader A} {P : A → ℕ → Type 0} {Q : A → Type 0} → Ends R n m P → Gives m Q
    → Ends R n m (λ a left. P a left × Q a)
ends_with {R = R} {m = m} {P = P} {Q = Q} here gives =
    record { ends = λ bytes e. with-held R P Q (m bytes) (here.ends bytes e) (held gives bytes) }

any_held : {A : Type 0} (r : Read A) → Held Any r
any_held (refused n) = tt
any_held (got a rest) = tt

pub gives-any : {A : Type 0} (m : Reader A) → Gives m Any
gives-any m = record { gives = λ n. record { ends = λ bytes e. any_held (m bytes) } }

pub gives_then : {A B : Type 0} {P : A → Type 0} {Q : B → Type 0} {m : Reader A} {f : A → Reader B} → Gives m P → ((a : A) → P a → Gives (f a) Q)
    → Gives (m >>= f) Q
gives_then here on = record { gives = λ n. ends-then (here.gives n) (λ a left p. (on a p).gives left) }

pub gives-return : {A : Type 0} {P : A → Type 0} {a : A} → P a → Gives (return a) P
gives-return h = record { gives = λ n. ends_return h }

pub gives-weaker : {A : Type 0} {P Q : A → Type 0} {m : Reader A} → ((a : A) → P a → Q a) → Gives m P → Gives m Q
gives-weaker imply here = record { gives = λ n. ends-weaker (λ a left p. imply a p) (here.gives n) }

-- a breach is judged, and where there is none the reading goes on
pub gives-judge : {A : Type 0} {P : A → Type 0} {m : Reader A} (breach : ℕ) → (breach ≡ 0 → Gives m P) → Gives (judge breach >> m) P
gives-judge breach kept = record { gives = λ n. ends-judge breach (λ broken. tt) (λ none. (kept none).gives n) }

-- a value that is read and then judged has kept its rule
pub gives-judged : {A B : Type 0} {P : B → Type 0} (m : Reader A) (rule : A → ℕ) (f : A → B) → ((a : A) → rule a ≡ 0 → P (f a))
    → Gives (m >>= λ a. judge (rule a) >> return (f a)) P
gives-judged m rule f keeps = gives_then (gives-any m) (λ a u. gives-judge (rule a) (λ kept. gives-return (keeps a kept)))

pub gives-cond : {A : Type 0} {P : A → Type 0} (b : Bool) {m k : Reader A} → (b ≡ true → Gives m P) → (b ≡ false → Gives k P) → Gives (cond b m k) P
gives-cond b here there = record { gives = λ n. ends-cond b (λ e. (here e).gives n) (λ e. (there e).gives n) }

-- a step that takes P at i to P at i + 1 takes it from 0 to n
pub gives-repeat : {A : Type 0} (P : ℕ → A → Type 0) (step : ℕ → A → Reader A) (n : ℕ) (a : A)
    → ((k : ℕ) (a : A) → k < n → P k a → Gives (step k a) (P (k + 1))) → P 0 a → Gives (repeat step n a) (P n)
gives-repeat P step n a on p =
    record { gives = λ size. ends-repeat (λ k a left. P k a) step n a (λ k a left less q. (on k a less q).gives left) p }

-- a record whose fields, read from bit 0 upwards, take P from bit to bit; a bit that is clear must take it too. Only bits with a meaning stand.
pub gives-fields : {A : Type 0} (P : ℕ → A → Type 0) (maps : ℕ) (field : ℕ → A → Reader A) (absent : A) → P 0 absent
    → ((k : ℕ) (a : A) → 2 ^ k < maps → P k a → Gives (field k a) (P (k + 1))) → ((k : ℕ) (a : A) → P k a → P (k + 1) a)
    → Gives (fields_by_map maps field absent) (P map_bits)
gives-fields P maps field absent start stands clear =
    record {
      gives =
          λ n.
          ends-fields (λ k a left. P k a) maps field absent (λ none. tt) (λ map stray. tt) (λ left e. start)
          (λ k a left meant p. (stands k a meant p).gives left) (λ k a left p. clear k a p);
    }

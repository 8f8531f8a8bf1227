-- What carries a loop over numbered readings: the turns that are left, on what was read so far, give what the whole run gives.
use Rattle.std.proofs.Common.{ℕ, zero, suc, ◌+◌, ◌-◌, ◌<◌, ◌≤◌, ◌≡◌, refl, sym, subst, ◌∙◌, List, arith}
use native.Mathlib.Nat.{sub-zero}
use Rattle.lists.specs.Run.{each}
use Rattle.lists.proofs.Turns.{Turns, turns-start, turns_more, turns-done}
use Rattle.reading.specs.Reader.{Read, Reader, refused, got, and_then, turn, repeat}

-- The first i of n readings are made, and this is what they gave.
pub record RepeatLeft {A : Type 0} (step : ℕ → A → Reader A) (n : ℕ) (value : A) (bytes : List ℕ) (read : Read A) (i : ℕ) : Type 0 where
  pub turns : Turns (turn step) n 0 (got value bytes) i read

-- a refusal stays through all later turns
refused-run : {A : Type 0} (step : ℕ → A → Reader A) (n i q : ℕ) → each (turn step) n i (refused q) ≡ refused q
unfolding each
refused-run step zero i q = refl
refused-run step (suc n) i q = refused-run step n (i + 1) q

-- a run goes on after a reading as one reader after another
pub run-then : {A : Type 0} (step : ℕ → A → Reader A) (n i : ℕ) (r : Read A)
    → each (turn step) n i r ≡ and_then r (λ a bytes. each (turn step) n i (got a bytes))
run-then step n i (refused q) = refused-run step n i q
run-then step n i (got a rest) = refl

module _ {A : Type 0} {step : ℕ → A → Reader A} {n : ℕ} {value : A} {bytes : List ℕ} where
  pub repeat-start : RepeatLeft step n value bytes (got value bytes) 0
  repeat-start = record { turns = turns-start (omega arith) }

  -- one more reading
  pub repeat-more : {read next : Read A} {i : ℕ} → RepeatLeft step n value bytes read i → i < n → next ≡ turn step i read
      → RepeatLeft step n value bytes next (i + 1)
  repeat-more {i = i} left h e =
      record { turns = subst (Turns (turn step) n 0 (got value bytes) (i + 1)) (sym e) (turns_more left.turns h) }

  -- no reading is left
  pub repeat-done : {read : Read A} {i : ℕ} → RepeatLeft step n value bytes read i → n ≤ i → read ≡ repeat step n value bytes
  repeat-done left h = rw sub-zero at (turns-done left.turns h)

  -- once a reading is refused, the run is
  pub repeat-stopped : {q i : ℕ} → RepeatLeft step n value bytes (refused q) i → refused q ≡ repeat step n value bytes
  repeat-stopped {q} {i} left = sym (refused-run step (n - i) i q) ∙ (rw sub-zero at left.turns.same)

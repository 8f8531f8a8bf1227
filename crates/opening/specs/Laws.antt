-- What holds of every opening: what it refuses by, what it reads of the bytes, and what it returns.
use Rattle.std.specs.Prelude.{ℕ, ◌+◌, ◌≤◌, ◌≡◌, List, [], ◌++◌, length, take}
use Rattle.rules.specs.Limits.{longest_study}
use Rattle.study.specs.Places.{Shaped}
use Rattle.answers.specs.Told.{Told, result, refusal, outcome_told}
use Rattle.soundness.specs.Sound.{Sound}
use Rattle.opening.specs.Opening.{opened}

-- what opening tells: that it is done, or the number of a refusal
abbrev pub opening_told : List ℕ → Told
opening_told bytes = outcome_told (opened bytes).outcome

-- bytes open
abbrev pub IsOpened : List ℕ → Type 0
IsOpened bytes = opening_told bytes ≡ result []

-- or they are refused, by this number
abbrev pub IsRefused : List ℕ → ℕ → Type 0
IsRefused bytes n = opening_told bytes ≡ refusal n

-- An opening that is not refused returns a sound study.
abbrev pub OpenedSound : Type 0
OpenedSound = (bytes : List ℕ) → IsOpened bytes → Sound (opened bytes).study

-- Whatever opening returns has all places of a study, a study of zeros too.
abbrev pub OpenedShaped : Type 0
OpenedShaped = (bytes : List ℕ) → Shaped (opened bytes).study

-- a row of the refusal table by which opening refuses
pub record OpeningRow (n : ℕ) : Type 0 where
  pub least : 1 ≤ n
  pub most : n ≤ 15

-- Opening refuses by no other number.
abbrev pub OpeningRows : Type 0
OpeningRows = (bytes : List ℕ) (n : ℕ) → IsRefused bytes n → OpeningRow n

-- Opening refuses by the first breach met from the left.
pub record FirstBreach : Type 0 where
  -- a front part of the bytes that breaks a rule decides, whatever follows
  pub decided : (front rest : List ℕ) (n : ℕ) → IsRefused front n → (n ≡ 1 → ⊥) → IsRefused (front ++ rest) n
  -- a front part of bytes that open is only too short
  pub too_short : (front rest : List ℕ) → IsOpened (front ++ rest) → (rest ≡ [] → ⊥) → IsRefused front 1
  -- bytes behind bytes that open are left over
  pub left_over : (front rest : List ℕ) → IsOpened front → (rest ≡ [] → ⊥) → IsRefused (front ++ rest) 15

-- How many of the bytes opening reads.
pub record LongestStudy : Type 0 where
  -- bytes that open are no more than the longest study
  pub most : (bytes : List ℕ) → IsOpened bytes → length bytes ≤ longest_study
  -- one byte more than the longest study decides the whole answer, whatever follows
  pub decides : (bytes : List ℕ) → opened (take (longest_study + 1) bytes) ≡ opened bytes

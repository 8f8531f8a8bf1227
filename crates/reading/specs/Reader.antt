-- Reading bytes from left to right: a reader takes the bytes still to come, and refuses at the first breach or hands on a value and the bytes left.
use Rattle.std.specs.Prelude.{ℕ, ◌+◌, ◌*◌, cond, List, [], ◌∷◌, eqb, get_or, Result, Ok, Err}
use Rattle.lists.specs.Run.{each}
use Rattle.rules.specs.declared.refusal.Refusal.{Refusal}
use Rattle.rules.specs.Refusals.{row_of}
use Rattle.rules.specs.Table.{short}

pub data Read (A : Type 0) : Type 0 where
  refused : ℕ → Read A
  got : A → List ℕ → Read A

abbrev pub Reader : Type 0 → Type 0
Reader A = List ℕ → Read A

-- go on with what was read; a refusal ends the reading
abbrev pub and_then : {A B : Type 0} → Read A → (A → Reader B) → Read B
and_then (refused n) f = refused n
and_then (got a rest) f = f a rest

infixr 20 ◌>>=◌
abbrev pub ◌>>=◌ : {A B : Type 0} → Reader A → (A → Reader B) → Reader B
◌>>=◌ m f bytes = and_then (m bytes) f

infixr 20 ◌>>◌
abbrev pub ◌>>◌ : {A B : Type 0} → Reader A → Reader B → Reader B
◌>>◌ m k bytes = and_then (m bytes) (λ a. k)

-- hand on a value, and read nothing
abbrev pub return : {A : Type 0} → A → Reader A
return a bytes = got a bytes

-- refuse with a breach, and go on where it is 0
abbrev pub judge : ℕ → Reader (Unit {0})
judge breach bytes = cond (eqb breach 0) (got tt bytes) (refused breach)

-- one byte; where none is left, a refusal by the row `end`
unfoldable pub byte_or : ℕ → Reader ℕ
byte_or end [] = refused end
byte_or end (b ∷ rest) = got b rest

-- one byte of a study
unfoldable pub byte : Reader ℕ
unfolding byte_or
byte = byte_or short

-- the number of four bytes, lowest byte first
abbrev pub number : ℕ → ℕ → ℕ → ℕ → ℕ
number b0 b1 b2 b3 = b0 + 256 * b1 + 65536 * b2 + 16777216 * b3

-- the number of the four bytes at a place
abbrev pub number_at : List ℕ → ℕ → ℕ
number_at bytes at = number (get_or bytes at 0) (get_or bytes (at + 1) 0) (get_or bytes (at + 2) 0) (get_or bytes (at + 3) 0)

-- a number of four bytes
unfoldable pub word : Reader ℕ
word = do
  b0 ← byte
  b1 ← byte
  b2 ← byte
  b3 ← byte
  return (number b0 b1 b2 b3)

-- one turn of a repeated step, on what was read so far
abbrev pub turn : {A : Type 0} → (ℕ → A → Reader A) → ℕ → Read A → Read A
turn step i r = and_then r (step i)

-- n turns of a step, numbered upwards from 0
abbrev pub repeat : {A : Type 0} → (ℕ → A → Reader A) → ℕ → A → Reader A
repeat step n a bytes = each (turn step) n 0 (got a bytes)

-- What the code's reading is: its refusal by the row's number, or the value with the bytes still to come.
abbrev pub read_by : {A E : Type 0} → (E → ℕ) → Result A E → List ℕ → Read A
read_by row (Ok a) rest = got a rest
read_by row (Err e) rest = refused (row e)

abbrev pub read_of : {A : Type 0} → Result A Refusal → List ℕ → Read A
read_of = read_by row_of

-- the same where the value was filled in place
abbrev pub read_into : {A : Type 0} → Result (Unit {0}) Refusal → A → List ℕ → Read A
read_into (Ok a) value rest = got value rest
read_into (Err refusal) value rest = refused (row_of refusal)

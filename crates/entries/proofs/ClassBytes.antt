-- Laws of the bytes of a class: how many they are, that a class is read from its own, and that reading and writing one in a row of bytes comes to the same. The
-- only laws that look at the bytes themselves.
use Prim.Native.Nat.{ℕ, ◌+◌, ◌≤◌}
use mathlib.Core.Path.{◌≡◌, refl, sym, ap, ◌∙◌}
use mathlib.Core.List.{List, [], ◌∷◌, ◌++◌}
use native.Mathlib.Nat.{add-zero}
use native.Mathlib.Omega.{arith}
use lib.ListN.{length, get_or, take, drop, set, get_or-append}
use lib.Seq.{get_or-drop}
use Rattle.text.specs.Writing.{Room, Wrote}
use Rattle.text.proofs.Pieces.{wrote_one}
use Rattle.entries.specs.Entries.{class_code, class_bytes, class_read}

pub code-long : (class : ℕ) → length (class_code class) ≡ class_bytes
unfolding class_code
code-long class = refl

-- a class is read from its own bytes, whatever stands behind them
pub code_read : (class : ℕ) (rest : List ℕ) → class_read (class_code class ++ rest) ≡ class
unfolding class_code class_read
code_read class rest = refl

-- it is read from so many bytes, and nothing behind them is looked at
pub read-front : (bytes rest : List ℕ) → class_bytes ≤ length bytes → class_read (bytes ++ rest) ≡ class_read bytes
unfolding class_read
read-front bytes rest enough = get_or-append bytes rest 0 0 enough

-- which are its own
pub read-code : (bytes : List ℕ) → class_bytes ≤ length bytes → class_code (class_read bytes) ≡ take class_bytes bytes
unfolding class_code class_read
read-code [] enough = absurd (omega arith)
read-code (b ∷ rest) enough = refl

-- the bytes at a place, one by one
pub read_at : (bytes : List ℕ) (at : ℕ) → get_or bytes at 0 ≡ class_read (drop at bytes)
unfolding class_read
read_at bytes at = sym (get_or-drop at bytes 0 0 ∙ ap (λ (k : ℕ). get_or bytes k 0) (add-zero at))

pub code-written : (d : List ℕ) (at class : ℕ) → Room d at (class_code class) → Wrote d at (class_code class) (set d at class) (at + class_bytes)
unfolding class_code
code-written d at class room = wrote_one d at class room

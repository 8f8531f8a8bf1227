-- What reading a byte and a number of four bytes gives at a place: the bytes there, or a refusal where they end too soon.
use Prim.Native.Nat.{ℕ, ◌+◌, ◌-◌, ◌<◌, ◌≤◌}
use mathlib.Core.Path.{◌≡◌, refl}
use mathlib.Core.List.{List, [], ◌∷◌}
use native.Mathlib.Nat.{add_assoc}
use native.Mathlib.Numerals.{add-one}
use native.Mathlib.Omega.{arith}
use lib.ListN.{length, get_or, drop, drop_of_length-le, length-drop}
use lib.Seq.{drop-cons}
use Rattle.rules.specs.Table.{short}
use Rattle.reading.specs.Reader.{got, refused, byte_or, byte, word, number_at}

pub byte-or-got : (end : ℕ) (s : List ℕ) (at : ℕ) → at < length s → byte_or end (drop at s) ≡ got (get_or s at 0) (drop (at + 1) s)
unfolding byte_or
byte-or-got end s at h = rw (drop-cons s at 0 h, add-one)

pub byte-or-ended : (end : ℕ) (s : List ℕ) (at : ℕ) → length s ≤ at → byte_or end (drop at s) ≡ refused end
unfolding byte_or
byte-or-ended end s at h = rw (drop_of_length-le s h)

byte-got : (s : List ℕ) (at : ℕ) → at < length s → byte (drop at s) ≡ got (get_or s at 0) (drop (at + 1) s)
unfolding byte
byte-got = byte-or-got short

pub word_got : (s : List ℕ) (at : ℕ) → at + 4 ≤ length s → word (drop at s) ≡ got (number_at s at) (drop (at + 4) s)
unfolding word
word_got s at h =
    rw (
      byte-got s at (omega arith),
      byte-got s (at + 1) (omega arith),
      add_assoc at 1 1,
      byte-got s (at + 2) (omega arith),
      add_assoc at 2 1,
      byte-got s (at + 3) (omega arith),
      add_assoc at 3 1,
    )

-- fewer than four bytes
few : (bytes : List ℕ) → length bytes < 4 → word bytes ≡ refused short
unfolding word byte
few [] h = refl
few (a ∷ []) h = refl
few (a ∷ b ∷ []) h = refl
few (a ∷ b ∷ c ∷ []) h = refl
few (a ∷ b ∷ c ∷ d ∷ rest) h = absurd (omega arith)

pub word-short : (s : List ℕ) (at : ℕ) → length s - at < 4 → word (drop at s) ≡ refused short
word-short s at h = few (drop at s) (rw length-drop h)

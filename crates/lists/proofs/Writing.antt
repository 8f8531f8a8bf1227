-- What carries a loop that writes a list into a buffer from a place on, element by element: those below k are written, and p is the next place.
use Prim.Native.Nat.{ℕ, ◌+◌, ◌<◌, ◌≤◌}
use mathlib.Core.Path.{◌≡◌, sym}
use mathlib.Core.List.{List, ◌∷◌}
use native.Mathlib.Numerals.{add-one}
use native.Mathlib.Omega.{arith}
use lib.ListN.{length, get_or, drop, set, length-drop, drop_of_length-le}
use lib.Seq.{drop-cons}
use Rattle.lists.specs.Rows.{put}
use Rattle.lists.proofs.Puts.{Due, due-start, due-set, due-done, due-end}

pub record Writing (l d₀ : List ℕ) (at k : ℕ) (d : List ℕ) (p : ℕ) : Type 0 where
  pub due : Due d₀ at l d p (drop k l)

module _ {l d₀ : List ℕ} {at : ℕ} where
  pub writing_start : at + length l ≤ length d₀ → Writing l d₀ at 0 d₀ at
  writing_start h = record { due = due-start h }

  pub writing_more : {k r p : ℕ} {d : List ℕ} → Writing l d₀ at k d p → k < length l → r ≡ get_or l k 0 → Writing l d₀ at (k + 1) (set d p r) (p + 1)
  writing_more {k} {r} {p} {d} w h e =
      let next : drop k l ≡ r ∷ drop (k + 1) l = rw (sym e, sym (add-one k)) at (drop-cons l k 0 h) in
      record { due = due-set (rw next at w.due) }

  pub writing-room : {k p : ℕ} {d : List ℕ} → Writing l d₀ at k d p → k < length l → p < length d
  writing-room {k} {p} {d} w h = omega (arith, h, w.due.room, length-drop k l)

  pub writing-done : {k p : ℕ} {d : List ℕ} → Writing l d₀ at k d p → length l ≤ k → d ≡ put d₀ at l
  writing-done {k} {p} {d} w h = due-done (rw (drop_of_length-le l {i = k} h) at w.due)

  pub writing-end : {k p : ℕ} {d : List ℕ} → Writing l d₀ at k d p → length l ≤ k → p ≡ at + length l
  writing-end {k} {p} {d} w h = due-end (rw (drop_of_length-le l {i = k} h) at w.due)

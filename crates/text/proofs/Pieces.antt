-- What carries every function that writes pieces one behind the other, in a row or in a loop: those below k are written, and p is the next place.
use Prim.Native.Nat.{ℕ, ◌+◌, ◌<◌, ◌≤◌}
use mathlib.Core.Path.{◌≡◌, sym}
use mathlib.Core.List.{List, [], ◌∷◌}
use native.Mathlib.Omega.{arith}
use lib.ListN.{length, get_or, drop, set, drop_of_length-le}
use Rattle.lists.specs.Rows.{joined}
use Rattle.lists.specs.Tabulate.{tabulate}
use Rattle.lists.proofs.Joined.{joined-next}
use Rattle.lists.proofs.Tabulated.{length-tabulate, get_or-tabulate}
use Rattle.lists.proofs.Puts.{Due, due-start, due-room, due-more, due-set, due-done, due-end}
use Rattle.text.specs.Writing.{Room, Wrote}

pub record Pieces (rows : List (List ℕ)) (d₀ : List ℕ) (at k : ℕ) (d : List ℕ) (p : ℕ) : Type 0 where
  pub due : Due d₀ at (joined rows) d p (joined (drop k rows))

module _ {d₀ : List ℕ} {at : ℕ} where
  pub pieces-start : (rows : List (List ℕ)) → Room d₀ at (joined rows) → Pieces rows d₀ at 0 d₀ at
  pieces-start rows room = record { due = due-start room.fits }

  module _ {rows : List (List ℕ)} {k p : ℕ} {d : List ℕ} where
    pub pieces_room : Pieces rows d₀ at k d p → k < length rows → Room d p (get_or rows k [])
    pieces_room w h = record { fits = due-room (get_or rows k []) (joined (drop (k + 1) rows)) (rw (joined-next rows k) at w.due) }

    pub pieces_more : {d' : List ℕ} {q : ℕ} → Pieces rows d₀ at k d p → k < length rows → Wrote d p (get_or rows k []) d' q → Pieces rows d₀ at (k + 1) d' q
    pieces_more w h wrote =
        record { due = due-more (get_or rows k []) (joined (drop (k + 1) rows)) (rw (joined-next rows k) at w.due) wrote.holds wrote.behind }

    pub pieces-done : Pieces rows d₀ at k d p → length rows ≤ k → Wrote d₀ at (joined rows) d p
    unfolding joined
    pieces-done w h =
        let all = rw (drop_of_length-le rows {i = k} h) at w.due in
        record { holds = due-done all; behind = due-end all }

-- a piece of one byte
pub wrote_one : (d : List ℕ) (at n : ℕ) → Room d at (n ∷ []) → Wrote d at (n ∷ []) (set d at n) (at + 1)
wrote_one d at n room =
    let all = due-set (due-start room.fits) in
    record { holds = due-done all; behind = due-end all }

-- ---- in a loop

-- where the next piece is known by an equation
module _ {rows : List (List ℕ)} {d₀ : List ℕ} {at k p : ℕ} {d x : List ℕ} where
  pub piece-room : Pieces rows d₀ at k d p → k < length rows → get_or rows k [] ≡ x → Room d p x
  piece-room w h e = rw e at (pieces_room w h)

  pub piece-more : {d' : List ℕ} {q : ℕ} → Pieces rows d₀ at k d p → k < length rows → get_or rows k [] ≡ x → Wrote d p x d' q → Pieces rows d₀ at (k + 1) d' q
  piece-more w h e wrote = pieces_more w h (rw (sym e) at wrote)

-- where the pieces are the values of a function
pub record Tabled (f : ℕ → List ℕ) (n : ℕ) (d₀ : List ℕ) (at k : ℕ) (d : List ℕ) (p : ℕ) : Type 0 where
  pub pieces : Pieces (tabulate f n) d₀ at k d p

pub tabled_start : (f : ℕ → List ℕ) (n : ℕ) {d₀ : List ℕ} {at : ℕ} → Room d₀ at (joined (tabulate f n)) → Tabled f n d₀ at 0 d₀ at
tabled_start f n room = record { pieces = pieces-start (tabulate f n) room }

module _ {f : ℕ → List ℕ} {n : ℕ} {d₀ : List ℕ} {at k p : ℕ} {d : List ℕ} where
  pub tabled-room : Tabled f n d₀ at k d p → k < n → Room d p (f k)
  tabled-room w h = piece-room w.pieces (rw (length-tabulate f n) h) (get_or-tabulate f n k [] h)

  pub tabled-more : {d' : List ℕ} {q : ℕ} → Tabled f n d₀ at k d p → k < n → Wrote d p (f k) d' q → Tabled f n d₀ at (k + 1) d' q
  tabled-more w h wrote = record { pieces = piece-more w.pieces (rw (length-tabulate f n) h) (get_or-tabulate f n k [] h) wrote }

  pub tabled-size : Tabled f n d₀ at k d p → length d ≡ length d₀
  tabled-size w = w.pieces.due.size

  pub tabled-done : Tabled f n d₀ at k d p → n ≤ k → Wrote d₀ at (joined (tabulate f n)) d p
  tabled-done w h = pieces-done w.pieces (rw (length-tabulate f n) h)

-- a piece of nothing
pub wrote_none : (d : List ℕ) (at : ℕ) → at ≤ length d → Wrote d at [] d at
wrote_none d at h =
    let all = due-start {d₀ = d} {x = []} {at = at} (omega (arith, h)) in
    record { holds = due-done all; behind = due-end all }

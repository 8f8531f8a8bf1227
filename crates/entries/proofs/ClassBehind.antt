-- What carries the writing of an entry: once its marks are written, the bytes of its class are due behind them.
use Prim.Native.Nat.{ℕ}
use mathlib.Core.Path.{◌∙◌}
use mathlib.Core.List.{List}
use native.Mathlib.Omega.{arith}
use lib.ListN.{length-append}
use Rattle.lists.proofs.Puts.{Due, due-start, due-more}
use Rattle.text.specs.Writing.{Room, Wrote}
use Rattle.entries.specs.Entries.{class_code, entry}

module _ {d : List ℕ} {at : ℕ} (marks : List ℕ) (class : ℕ) (room : Room d at (entry marks class)) where
  pub marks-room : Room d at marks
  unfolding entry
  marks-room = record { fits = omega (arith, room.fits, length-append marks (class_code class)) }

  module _ {d' : List ℕ} {p : ℕ} (wrote : Wrote d at marks d' p) where
    class-due : Due d at (entry marks class) d' p (class_code class)
    unfolding entry
    class-due = due-more marks (class_code class) (due-start room.fits) wrote.holds wrote.behind

    pub class-room : Room d' p (class_code class)
    class-room = record { fits = class-due.room }

    pub class-written : {d'' : List ℕ} {r : ℕ} → Wrote d' p (class_code class) d'' r → Wrote d at (entry marks class) d'' r
    class-written last = record { holds = last.holds ∙ class-due.same; behind = last.behind ∙ class-due.place }

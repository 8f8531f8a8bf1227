-- What carries the listing of a block's paths: those of the ways below s are written, and the marks in front stand as
-- they were.
use Rattle.std.proofs.Common.{ℕ, ◌+◌, ◌<◌, ◌≤◌, ◌≡◌, sym, ap, ◌∙◌, List, [], ◌∷◌, ◌++◌, arith, length, get_or, take}
use mathlib.Core.List.{append-nil}
use native.Mathlib.Numerals.{add-one}
use lib.ListN.{set}
use lib.Seq.{length-take-le, take_at, take-suc-set, take-take}
use Rattle.lists.specs.Rows.{put, joined}
use Rattle.lists.proofs.Puts.{Due, due-start, due-room, due-more}
use Rattle.text.specs.Writing.{Room, Wrote}
use Rattle.entries.specs.Entries.{entry}
use Rattle.paths.specs.Paths.{paths}
use Rattle.paths.specs.Ways.{mark}
use Rattle.paths.proofs.Ways.{headed}
use Rattle.event_tree.specs.declared.block.ClassBlock.{ClassBlock}
use Rattle.event_tree.specs.declared.parts.Fork.{Fork}
use Rattle.event_tree.specs.Entries.{entries_behind}
use Rattle.event_tree.specs.Ways.{blank_in, number_in}
use Rattle.event_tree.proofs.Behind.{behind-one, behind-append, behind-headed}
use Rattle.event_tree.proofs.Forked.{no-fork, rows, left, left-all, left-next, left-none}

-- the first n places of a row of marks are those in front
pub record Marked (front : List ℕ) (n size : ℕ) (marks : List ℕ) : Type 0 where
  pub kept : take n marks ≡ front
  pub long : length marks ≡ size

pub record Listed (f : Fork) (front : List ℕ) (n size : ℕ) (d₀ : List ℕ) (at s : ℕ) (marks d : List ℕ)
    (place : ℕ) : Type 0 where
  pub inside : n + length f.block.counts.now ≤ size
  pub marked : Marked front n size marks
  pub onward : at ≤ place
  pub due : Due d₀ at (entries_behind front (paths f.block.counts.now f.block.classes.now)) d place
      (entries_behind front (left f s))

-- the marks that a call for way s is handed: its own behind those in front
abbrev pub own_marks : Fork → List ℕ → ℕ → List ℕ
own_marks f front s = front ++ (mark (blank_in f.ways) s ∷ [])

-- the entries of way s come next
next : (f : Fork) (front : List ℕ) (s : ℕ) → s < number_in f.ways
    → entries_behind front (left f s) ≡ entries_behind (own_marks f front s) (rows f s)
    ++ entries_behind front (left f (s + 1))
next f front s inside =
    ap (entries_behind front) (left-next f s inside)
    ∙ behind-append front (headed (mark (blank_in f.ways) s) (rows f s)) (left f (s + 1))
    ∙ ap (λ (l : List ℕ). l ++ entries_behind front (left f (s + 1))) (behind-headed front (mark (blank_in f.ways) s)
    (rows f s))

module _ {f : Fork} {front : List ℕ} {n size : ℕ} {d₀ : List ℕ} {at : ℕ} where
  pub listed_start : {b : ClassBlock} {marks : List ℕ} → f.block ≡ b → n + length b.counts.now ≤ size
      → take n marks ≡ front → length marks ≡ size
      → at + length (entries_behind front (paths b.counts.now b.classes.now)) ≤ length d₀
      → Listed f front n size d₀ at 0 marks d₀ at
  listed_start {b} {marks} e inside kept long room =
      record {
        inside = rw e inside;
        marked = record { kept = kept; long = long };
        onward = omega arith;
        due = rw (left-all f) (due-start (rw e room));
      }

  -- the mark of way s is set behind those in front
  pub listed-way : {s place m : ℕ} {marks d : List ℕ} → Listed f front n size d₀ at s marks d place
      → m ≡ mark (blank_in f.ways) s → take (n + 1) (set marks n m) ≡ own_marks f front s
  listed-way {s} {place} {m} {marks} {d} l own =
      let room : n < length marks = omega (arith, l.inside, f.some, l.marked.long) in
      let set-behind : take (n + 1) (set marks n m) ≡ take n marks
      ++ (m ∷ []) = rw add-one (take-suc-set marks n m room) in
      set-behind ∙ ap (λ (kept : List ℕ). kept ++ (m ∷ [])) l.marked.kept ∙ ap (λ (k : ℕ). front ++ (k ∷ [])) own

  -- there is room for the entries of way s
  pub listed-room : {s place : ℕ} {marks d : List ℕ} → Listed f front n size d₀ at s marks d place
      → s < number_in f.ways
      → place + length (entries_behind (own_marks f front s) (rows f s)) ≤ length d
  listed-room {s} {place} {marks} {d} l inside =
      due-room (entries_behind (own_marks f front s) (rows f s)) (entries_behind front (left f (s + 1))) (rw
      (next f front s inside) at l.due)

  -- the marks behind those in front may have changed
  pub listed_more : {s place q : ℕ} {marks marks' d d' : List ℕ} → Listed f front n size d₀ at s marks d place
      → s < number_in f.ways
      → take (n + 1) marks' ≡ own_marks f front s → length marks' ≡ size
      → q ≡ place + length (entries_behind (own_marks f front s) (rows f s))
      → d' ≡ put d place (entries_behind (own_marks f front s) (rows f s))
      → Listed f front n size d₀ at (s + 1) marks' d' q
  listed_more {s} {place} {q} {marks} {marks'} {d} {d'} l inside kept long end wrote =
      let short : length front ≡ n = ap length (sym l.marked.kept)
      ∙ length-take-le n marks (omega (arith, l.inside, l.marked.long)) in
      let again : take n (take (n + 1) marks') ≡ front = rw kept (take_at front (mark
      (blank_in f.ways) s ∷ []) n short) in
      record {
        inside = l.inside;
        marked = record { kept = sym (take-take n (n + 1) marks' (omega arith)) ∙ again; long = long };
        onward = omega (arith, end, l.onward);
        due = due-more (entries_behind (own_marks f front s) (rows f s)) (entries_behind front (left f (s + 1))) (rw
            (next f front s inside) at l.due) wrote end;
      }

  -- nothing is left to be written
  pub listed-all : {b : ClassBlock} {s place : ℕ} {marks d : List ℕ} → f.block ≡ b
      → Listed f front n size d₀ at s marks d place
      → number_in f.ways ≤ s → Due d₀ at (entries_behind front (paths b.counts.now b.classes.now)) d place []
  unfolding entries_behind joined
  listed-all {b} {s} {place} {marks} {d} e l h = rw (← e) (rw (left-none f s h) at l.due)

-- ---- no component is left: one entry

module _ (counts block front : List ℕ) (none : length counts ≡ 0) where
  leaf : entries_behind front (paths counts block) ≡ entry front (get_or block 0 0)
  leaf = rw (no-fork counts block none) (behind-one front (get_or block 0 0))

  pub leaf_room : {d : List ℕ} {at : ℕ} → at + length (entries_behind front (paths counts block)) ≤ length d
      → Room d at (entry front (get_or block 0 0))
  leaf_room room = record { fits = rw leaf at room }

  pub leaf-done : {d d' : List ℕ} {at r : ℕ} → at + length (entries_behind front (paths counts block)) ≤ length d
      → Wrote d at (entry front (get_or block 0 0)) d' r → Due d at (entries_behind front (paths counts block)) d' r []
  leaf-done {d} {d'} {at} {r} room wrote =
      let one = entries_behind front (paths counts block) in
      let begin : Due d at one d at (one ++ []) = rw append-nil (due-start room) in
      due-more one [] begin (rw leaf wrote.holds) (rw leaf wrote.behind)

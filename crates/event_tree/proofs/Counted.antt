-- What carries the counting of a block's paths: those of the ways below s are counted.
use Rattle.std.proofs.Common.{ℕ, ◌+◌, ◌<◌, ◌≤◌, ◌≡◌, sym, ap, ◌∙◌, List, ◌∷◌, arith, length}
use native.Mathlib.Nat.{zero-add}
use lib.ListN.{length-append, length-map}
use Rattle.paths.specs.Paths.{paths}
use Rattle.paths.specs.Ways.{mark}
use Rattle.paths.proofs.Few.{few-paths}
use Rattle.paths.proofs.Ways.{headed}
use Rattle.event_tree.specs.declared.parts.Fork.{Fork}
use Rattle.event_tree.specs.Ways.{blank_in, number_in}
use Rattle.event_tree.proofs.Forked.{rows, left, left-all, left-next, left-none}

pub record Counted (f : Fork) (s n : ℕ) : Type 0 where
  pub due : n + length (left f s) ≡ length (paths f.block.counts.now f.block.classes.now)

module _ {f : Fork} where
  pub counted_start : Counted f 0 0
  counted_start = record { due = rw (zero-add, left-all f) }

  pub counted-more : {s n r : ℕ} → Counted f s n → s < number_in f.ways → r ≡ length (rows f s)
      → Counted f (s + 1) (n + r)
  counted-more {s} {n} {r} c h count =
      let way : List (List ℕ) = headed (mark (blank_in f.ways) s) (rows f s) in
      let next = ap length (left-next f s h) ∙ length-append way (left f (s + 1)) in
      let same : r ≡ length way = count ∙ sym (length-map (rows f s) (λ (row : List ℕ). mark
      (blank_in f.ways) s ∷ row)) in
      record { due = omega (arith, next, same, c.due) }

  -- no more than there are classes in the block
  pub counted-most : {s n : ℕ} → Counted f s n → n ≤ length f.block.classes.now
  counted-most {s} {n} c = omega (
    arith,
    c.due,
    (few-paths f.block.counts.now f.block.classes.now f.block.whole).most,
    f.block.whole.long,
  )

  pub counted-done : {s n : ℕ} → Counted f s n → number_in f.ways ≤ s
      → n ≡ length (paths f.block.counts.now f.block.classes.now)
  counted-done {s} {n} c h = omega (arith, ap length (left-none f s h), c.due)

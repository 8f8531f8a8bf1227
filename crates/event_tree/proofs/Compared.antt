-- What carries the comparison of a block's parts: those of the states below s are compared with that of state 0.
use Prim.Native.Nat.{ℕ, ◌+◌, ◌*◌, ◌<◌, ◌≤◌}
use mathlib.Core.Path.{◌≡◌, refl, sym, ap, ◌∙◌}
use mathlib.Core.Bool.{Bool, true, ◌&&◌}
use mathlib.Core.List.{List}
use native.Mathlib.Numerals.{add-one}
use native.Mathlib.Omega.{arith}
use lib.ListN.{length}
use Rattle.lists.specs.Counting.{all_below}
use Rattle.lists.specs.Rows.{same}
use Rattle.lists.proofs.Tests.{true_same}
use Rattle.paths.specs.Paths.{part, is_blank}
use Rattle.paths.proofs.Sizes.{part-long}

pub record Compared (states size : ℕ) (block : List ℕ) (s : ℕ) (blank : Bool) : Type 0 where
  pub inside : s ≤ states
  pub whole : length block ≡ states * size
  pub found : blank ≡ all_below (λ (k : ℕ). same (part size 0 block) (part size k block)) s

module _ {states size : ℕ} {block : List ℕ} where
  pub compared-start : 0 < states → length block ≡ states * size → Compared states size block 1 true
  unfolding all_below
  compared-start h e = record { inside = h; whole = e; found = sym (true_same (part size 0 block)) }

  -- the two parts that are compared have the same length
  pub compared-even : {s : ℕ} {blank : Bool} (first other : List ℕ) → Compared states size block s blank → s < states
      → first ≡ part size 0 block → other ≡ part size s block → length first ≡ length other
  compared-even {s} {blank} first other c h e₀ e =
      rw (e₀, e, part-long states size s block c.whole h) (part-long states size 0 block c.whole (omega arith))

  pub compared-more : {s : ℕ} {blank alike : Bool} {first other : List ℕ} → Compared states size block s blank
      → s < states
      → first ≡ part size 0 block → other ≡ part size s block → alike ≡ same first other
      → Compared states size block (s + 1) (blank && alike)
  unfolding all_below
  compared-more {s} {blank} {alike} {first} {other} c h e₀ e found =
      record { inside = omega arith; whole = c.whole; found = rw (add-one, sym c.found, sym e₀, sym e, found) refl }

  pub compared-done : {s : ℕ} {blank : Bool} → Compared states size block s blank → states ≤ s
      → blank ≡ is_blank states size block
  unfolding is_blank
  compared-done {s} {blank} c h =
      let all : s ≡ states = omega (arith, c.inside) in
      c.found ∙ ap (all_below (λ (k : ℕ). same (part size 0 block) (part size k block))) all

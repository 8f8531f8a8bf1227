-- A text that was written whole at the front of a local buffer is handed over as that buffer's front.
use Prim.Native.Nat.{ℕ, ◌+◌, ◌^◌, ◌≤◌, ◌<◌}
use mathlib.Core.Path.{◌≡◌, sym}
use mathlib.Core.List.{List}
use native.Mathlib.Omega.{arith}
use lib.ListN.{length, take, drop, length-append}
use lib.Seq.{take_at, length-take-le}
use Rattle.lists.specs.Rows.{put}
use Rattle.text.specs.Writing.{Wrote}

module _ {d text d' : List ℕ} {size : ℕ} (wrote : Wrote d 0 text d' size) where
  -- as many bytes were written as the text has
  long : size ≡ length text
  long = omega (arith, wrote.behind)

  -- the front of the buffer is the text
  pub whole-front : take size d' ≡ text
  unfolding put
  whole-front = rw wrote.holds (take_at text (drop (0 + length text) d) size (sym long))

  -- and stands inside the buffer
  pub whole-inside : size ≤ length d'
  unfolding put
  whole-inside = rw (wrote.holds, length-append text (drop (0 + length text) d)) (omega (arith, long))

  -- as a slice it has so many bytes
  pub front-counts : size ≡ length (take size d')
  front-counts = sym (length-take-le size d' whole-inside)

  -- and is no longer than the buffer
  pub front-short : (most : ℕ) → length d' ≡ most → most < 2 ^ 32 → length (take size d') < 2 ^ 32
  front-short most places few = omega (arith, front-counts, whole-inside)

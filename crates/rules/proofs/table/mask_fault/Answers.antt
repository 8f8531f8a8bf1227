-- `rules::table::mask_fault` meets its contract. With as many states as a mask has bits, or more, every mask is below 2 ^ states, so only
-- the mask 0 is left to refuse; with fewer, 2 ^ states is the shifted bit, which loses nothing in 32 bits.
use Prim.Native.Nat.{ℕ, ◌<◌, ◌≤◌, ◌-◌, ◌^◌, ◌*◌, ◌%◌}
use mathlib.Core.Path.{◌≡◌, ◌∙◌}
use mathlib.Core.Bool.{or-false}
use native.Mathlib.Nat.{le_trans, one-mul}
use native.Mathlib.Omega.{arith}
use lib.Pow.{pow_mono, pow_pos, shl_exact, le_ones}
use lib.Dec.{lit<, ltb}
use borrow.Author.Tests.{le-ltb}
use Rattle.rules.specs.Limits.{mask_bits}
use Rattle.rules.specs.Breach.{outside}
use Rattle.rules.proofs.table.mask_fault.Goals as goal

-- a byte's mask is not above 2 ^ states - 1
only_zero : (states mask : ℕ) → mask_bits ≤ states → mask < 2 ^ mask_bits → outside 1 (2 ^ states - 1) mask ≡ ltb mask 1
unfolding outside
only_zero states mask h m = rw (le-ltb (2 ^ states - 1) mask (le_ones states (le_trans m (pow_mono h)))) (or-false (ltb mask 1))

-- the shifted bit
shifted : (states : ℕ) → states < mask_bits → (1 * 2 ^ states) % 2 ^ 32 ≡ 2 ^ states
shifted states h = shl_exact 1 states 32 (lit< tt) (omega arith) ∙ one-mul (2 ^ states)

pub returns-then-states-ge-MASK_BITS : goal.returns-then-states-ge-MASK_BITS
returns-then-states-ge-MASK_BITS c =
    rw (only_zero _ _ c.if-states-ge-MASK_BITS.true c.ranges.mask.fits) c.refuse.ensures

pub overflow_sub-states : goal.overflow_sub-states
overflow_sub-states c =
    rw (shifted _ c.if-states-ge-MASK_BITS.false) (pow_pos _)

pub returns : goal.returns
returns c =
    rw (shifted _ c.if-states-ge-MASK_BITS.false) at c.refuse_outside.ensures

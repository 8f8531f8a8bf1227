-- What carries the making of a class: the bits of the loads below j are set.
use Prim.Native.Nat.{ℕ, ◌+◌, ◌-◌, ◌*◌, ◌%◌, ◌^◌, ◌<◌, ◌≤◌}
use mathlib.Core.Path.{◌≡◌, refl, ap, ◌∙◌}
use mathlib.Core.Bool.{Bool}
use mathlib.Core.List.{List}
use native.Mathlib.Nat.{add_comm, mul-le-mul, pow-le-pow_right, mod-eq_of_lt}
use native.Mathlib.Numerals.{add-one}
use native.Mathlib.Omega.{arith}
use lib.Bits.{bit_or, or_shifted_r}
use lib.Dec.{lit<}
use lib.ListN.{get_or}
use mir.Val.{bool_byte}
use Rattle.lists.specs.Counting.{sum, truth}
use Rattle.lists.proofs.Sums.{truth-most, cast-truth, bits_below}
use Rattle.rules.specs.Limits.{most_loads}
use Rattle.study.specs.declared.Load.{Load}
use Rattle.study.specs.Zero.{zero_load}
use Rattle.fault_tree.specs.Classes.{lost, class_by}

pub class-below : (truths : List Bool) (load : List Load) (n : ℕ) → class_by truths load n < 2 ^ n
unfolding class_by
class-below truths load n = bits_below (λ (j : ℕ). lost truths (get_or load j zero_load)) n

-- the bit of a load is one of a class
bit-fits : (b : Bool) (j : ℕ) → j < most_loads → bool_byte b * 2 ^ j % 2 ^ most_loads ≡ truth b * 2 ^ j
bit-fits b j h =
    let most : truth b * 2 ^ j ≤ 1 * 2 ^ (most_loads - 1) =
    mul-le-mul (truth-most b) (pow-le-pow_right (lit< tt) {i = j} {j = most_loads - 1} (omega arith)) in
    rw (cast-truth b) (mod-eq_of_lt (omega (arith, most)))

pub record Bits (truths : List Bool) (load : List Load) (n j class : ℕ) : Type 0 where
  pub inside : j ≤ n
  pub made : class ≡ class_by truths load j

module _ {truths : List Bool} {load : List Load} {n : ℕ} where
  pub bits-start : Bits truths load n 0 0
  unfolding class_by sum
  bits-start = record { inside = omega arith; made = refl }

  pub bits-more : {j class : ℕ} {b : Bool} → Bits truths load n j class → j < n → n ≤ most_loads → b ≡ lost truths (get_or load j zero_load)
      → Bits truths load n (j + 1) (bit_or class (bool_byte b * 2 ^ j % 2 ^ most_loads))
  unfolding class_by sum
  bits-more {j} {class} {b} s h most e =
      let below : class < 2 ^ j = rw s.made (class-below truths load j) in
      record {
        inside = omega arith;
        made =
            rw (bit-fits b j (omega arith), or_shifted_r (truth b) j class below, add-one, e, s.made)
            (add_comm (truth (lost truths (get_or load j zero_load)) * 2 ^ j) (class_by truths load j));
      }

  pub bits-done : {j class : ℕ} → Bits truths load n j class → n ≤ j → class ≡ class_by truths load n
  bits-done {j} {class} s h =
      let all : j ≡ n = omega (arith, s.inside) in
      s.made ∙ ap (class_by truths load) all

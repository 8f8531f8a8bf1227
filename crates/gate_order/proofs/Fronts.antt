-- The front part of the places that the code lends: as many as the count says, and no more than there are. It is the row of inputs that the count means.
use Prim.Native.Nat.{ℕ, min, ◌≤◌}
use mathlib.Core.Path.{◌≡◌, sym, ap, ◌∙◌}
use mathlib.Core.List.{List, ◌++◌, map, append_assoc}
use native.Mathlib.Nat.{zero-add}
use native.Mathlib.Omega.{arith}
use lib.ListN.{length, take, drop, replicate, length-map, take-append-drop}
use lib.Seq.{length-take-le, drop-append-le}
use Rattle.lists.specs.Rows.{put}
use Rattle.lists.proofs.Puts.{put_whole}
use Rattle.ordering.specs.Distinct.{distinct}
use Rattle.ordering.specs.Thinning.{Fronted}
use Rattle.ordering.specs.Inputs.{Input, paired, numbers, masks, sorted}
use Rattle.ordering.specs.Sorting.{Hold}
use Rattle.ordering.proofs.Pairs.{paired-take, paired_long, paired-unmasked}
use Rattle.ordering.proofs.Sets.{distinct-most}
use Rattle.ordering.proofs.Sorted.{sorted-long}
use Rattle.rules.specs.Limits.{most_gate_inputs}
use Rattle.gate_order.specs.Inputs.{unmasked}
use Rattle.gate_order.specs.Rows.{no_masks}
use Rattle.gate_order.proofs.Rows.{take_within}

module _ (count size k : ℕ) (within : k ≡ min count size) where
  -- such a part has so many elements
  pub front_long : (l : List ℕ) → length l ≡ size → k ≡ length (take k l)
  front_long l long = sym (length-take-le k l (omega (arith, within, long)))

  pub fronts-long : (l m : List ℕ) → length l ≡ size → length m ≡ size → length (take k l) ≡ length (take k m)
  fronts-long l m long long' = sym (front_long l long) ∙ front_long m long'

  take-front : {A : Type 0} (l : List A) → length l ≡ size → take k l ≡ take count l
  take-front l long = ap (λ (n : ℕ). take n l) (within ∙ ap (min count) (sym long)) ∙ take_within count l

  pub tests-front : (c m : List ℕ) → length c ≡ size → length m ≡ size → paired (take k c) (take k m) ≡ take count (paired c m)
  tests-front c m long long' = paired-take k c m ∙ take-front (paired c m) (paired_long c m (long ∙ sym long') ∙ long)

  -- what is put at the front of a front part is put at the front of the whole
  part-put : (l x y : List ℕ) → length l ≡ size → length y ≤ k → x ≡ put (take k l) 0 y → x ++ drop k l ≡ put l 0 y
  unfolding put
  part-put l x y long few put-there =
      let inside : length y ≤ length (take k l) = omega (arith, few, front_long l long) in
      let behind : drop (length y) (take k l) ++ drop k l ≡ drop (length y) l =
      sym (drop-append-le (length y) (take k l) (drop k l) inside) ∙ ap (drop (length y)) (take-append-drop k l) in
      rw (put-there, zero-add) (append_assoc y (drop (length y) (take k l)) (drop k l) ∙ ap (λ (r : List ℕ). y ++ r) behind)

  -- two rows whose front parts are a row of inputs side by side
  module _ (c m x y : List ℕ) (row : List Input) (long : length c ≡ size) (long' : length m ≡ size) (same : paired (take k c) (take k m) ≡ row) where
    row_long : length row ≡ k
    row_long = ap length (sym same) ∙ paired_long (take k c) (take k m) (fronts-long c m long long') ∙ sym (front_long c long)

    part-fronted : (front : List Input) (n : ℕ) → length front ≤ k → Fronted (take k c) (take k m) front x y n
        → Fronted c m front (x ++ drop k c) (y ++ drop k m) n
    part-fronted front n few part =
        record {
          in_numbers = part-put c x (numbers front) long (omega (arith, few, length-map front (λ (a : Input). a.number))) part.in_numbers;
          in_masks = part-put m y (masks front) long' (omega (arith, few, length-map front (λ (a : Input). a.mask))) part.in_masks;
          many = part.many;
        }

    -- sorted
    pub sorted_front : Hold x y (sorted (paired (take k c) (take k m))) → Fronted c m (sorted row) (x ++ drop k c) (y ++ drop k m) k
    sorted_front sorts =
        let all : length (sorted row) ≡ k = sorted-long row ∙ row_long in
        let held : Hold x y (sorted row) = rw same at sorts in
        part-fronted (sorted row) k (omega (arith, all))
        (record {
          in_numbers =
              held.in_numbers
              ∙ sym (put_whole (take k c) (numbers (sorted row)) (length-map (sorted row) (λ (a : Input). a.number) ∙ all ∙ front_long c long));
          in_masks =
              held.in_masks
              ∙ sym (put_whole (take k m) (masks (sorted row)) (length-map (sorted row) (λ (a : Input). a.mask) ∙ all ∙ front_long m long'));
          many = sym all;
        })

    -- the distinct ones
    pub distinct-front : (n : ℕ) → Fronted (take k c) (take k m) (distinct (paired (take k c) (take k m))) x y n
        → Fronted c m (distinct row) (x ++ drop k c) (y ++ drop k m) n
    distinct-front n keeps = part-fronted (distinct row) n (omega (arith, distinct-most row, row_long)) (rw same at keeps)

-- gate inputs, beside masks of 0
pub beside-no-masks : (l : List ℕ) → length l ≡ most_gate_inputs → paired l no_masks ≡ map unmasked l
unfolding no_masks
beside-no-masks l long = ap (λ (n : ℕ). paired l (replicate n 0)) (sym long) ∙ paired-unmasked l

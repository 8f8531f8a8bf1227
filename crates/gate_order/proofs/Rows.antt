-- Rows of inputs in the places of a gate: what is written over the front of the places is what stands there then.
use Prim.Native.Nat.{ℕ, zero, suc, min, ◌+◌, ◌≤◌}
use mathlib.Core.Path.{◌≡◌, refl, sym, ap, ◌∙◌}
use mathlib.Core.List.{List, [], ◌∷◌, ◌++◌, map}
use native.Mathlib.Nat.{min-eq_left, min-eq_right, zero-add}
use native.Mathlib.Decide.{dec_le}
use native.Mathlib.Omega.{arith}
use lib.ListN.{length, take, drop, length-map, length-take, take-append-drop}
use lib.Seq.{take_all, take_at, length-take-le}
use Rattle.lists.specs.Rows.{put}
use Rattle.lists.proofs.Elements.{Every}
use Rattle.lists.proofs.Puts.{put-size}
use Rattle.ordering.specs.Inputs.{Input, no_input, paired, numbers, masks}
use Rattle.ordering.proofs.Pairs.{parted-paired, paired-numbers, paired-masks, paired-take, paired_long}
use Rattle.gate_order.specs.Inputs.{unmasked}

-- rows of which the fronts have one length
paired-append : (x y r s : List ℕ) → length x ≡ length y → paired (x ++ r) (y ++ s) ≡ paired x y ++ paired r s
unfolding paired
paired-append [] [] r s e = refl
paired-append [] (b ∷ y) r s e = absurd (omega (arith, e))
paired-append (a ∷ x) [] r s e = absurd (omega (arith, e))
paired-append (a ∷ x) (b ∷ y) r s e = ap (λ (l : List Input). record { number = a; mask = b } ∷ l) (paired-append x y r s (omega (arith, e)))

map-append : (x r : List ℕ) → map unmasked (x ++ r) ≡ map unmasked x ++ map unmasked r
map-append [] r = refl
map-append (a ∷ x) r = ap (λ (l : List Input). unmasked a ∷ l) (map-append x r)

long : (row : List Input) → length (numbers row) ≡ length (masks row)
long row = length-map row (λ (a : Input). a.number) ∙ sym (length-map row (λ (a : Input). a.mask))

paired-parted : (row : List Input) → length (paired (numbers row) (masks row)) ≡ length row
paired-parted row = ap length (parted-paired row)

-- no more is taken than there is
pub take_within : {A : Type 0} (n : ℕ) (l : List A) → take (min n (length l)) l ≡ take n l
take_within {A} n l = go (dec_le n (length l))
  where
    go : Dec (n ≤ length l) → take (min n (length l)) l ≡ take n l
    go (yes few) = ap (λ (k : ℕ). take k l) (min-eq_left few)
    go (no more) =
        let fewer : length l ≤ n = omega arith in
        ap (λ (k : ℕ). take k l) (min-eq_right fewer) ∙ take_all (length l) l (omega arith) ∙ sym (take_all n l (omega arith))

-- so a row in front of as many places as are taken is what is taken
front-taken : (n size : ℕ) (l row : List Input) → length l ≡ size → length row ≡ min n size → take (length row) l ≡ row → take n l ≡ row
front-taken n size l row long e first = sym (take_within n l) ∙ ap (λ (k : ℕ). take k l) (ap (min n) long ∙ sym e) ∙ first

-- the places stay as many
pub written-long : (l x : List ℕ) → length x ≤ length l → length (put l 0 x) ≡ length l
written-long l x few = put-size l (put l 0 x) 0 x (omega (arith, few)) refl

-- tests written over the front
tests-first : (c m : List ℕ) (row : List Input) → take (length row) (paired (put c 0 (numbers row)) (put m 0 (masks row))) ≡ row
unfolding put
tests-first c m row =
    ap (take (length row)) (paired-append (numbers row) (masks row) _ _ (long row))
    ∙ take_at (paired (numbers row) (masks row)) _ (length row) (paired-parted row)
    ∙ parted-paired row

pub tests-written : (c m : List ℕ) (n : ℕ) (row : List Input) → length c ≡ length m → length row ≡ min n (length c)
    → take n (paired (put c 0 (numbers row)) (put m 0 (masks row))) ≡ row
tests-written c m n row same e =
    let numbers-long = length-map row (λ (a : Input). a.number) in
    let masks-long = length-map row (λ (a : Input). a.mask) in
    let c-long = written-long c (numbers row) (omega (arith, numbers-long, e)) in
    let m-long = written-long m (masks row) (omega (arith, masks-long, e, same)) in
    front-taken n (length c) (paired (put c 0 (numbers row)) (put m 0 (masks row))) row
    (paired_long (put c 0 (numbers row)) (put m 0 (masks row)) (c-long ∙ same ∙ sym m-long) ∙ c-long) e (tests-first c m row)

-- gate inputs have no mask
numbers-unmasked : (row : List Input) → Every (λ (a : Input). a.mask ≡ 0) no_input row → map unmasked (numbers row) ≡ row
numbers-unmasked [] none = refl
numbers-unmasked (a ∷ row) none =
    let mask = none 0 (omega arith) in
    let first : unmasked a.number ≡ a = λ i. record { number = a.number; mask = sym mask i } in
    let rest = numbers-unmasked row (λ k h. none (suc k) (omega arith)) in
    λ i. first i ∷ rest i

-- gate inputs written over the front
inputs-first : (l : List ℕ) (row : List Input) → Every (λ (a : Input). a.mask ≡ 0) no_input row → take (length row) (map unmasked (put l 0 (numbers row))) ≡ row
unfolding put
inputs-first l row none =
    ap (take (length row)) (map-append (numbers row) _)
    ∙ take_at (map unmasked (numbers row)) _ (length row) (ap length (numbers-unmasked row none))
    ∙ numbers-unmasked row none

pub inputs-written : (l : List ℕ) (n : ℕ) (row : List Input) → length row ≡ min n (length l) → Every (λ (a : Input). a.mask ≡ 0) no_input row
    → take n (map unmasked (put l 0 (numbers row))) ≡ row
inputs-written l n row e none =
    let numbers-long = length-map row (λ (a : Input). a.number) in
    front-taken n (length l) (map unmasked (put l 0 (numbers row))) row
    (length-map (put l 0 (numbers row)) unmasked ∙ written-long l (numbers row) (omega (arith, numbers-long, e))) e (inputs-first l row none)

-- ---- what stands at the front already

-- a front part written over itself
put-own : (d : List ℕ) (n : ℕ) → n ≤ length d → put d 0 (take n d) ≡ d
unfolding put
put-own d n h = ap (λ (k : ℕ). take n d ++ drop (0 + k) d) (length-take-le n d h) ∙ ap (λ (k : ℕ). take n d ++ drop k d) (zero-add n) ∙ take-append-drop n d

front_long : (c m : List ℕ) (n : ℕ) → length c ≡ length m → length (take n c) ≡ length (take n m)
front_long c m n e = length-take n c ∙ ap (λ (k : ℕ). min n k) e ∙ sym (length-take n m)

pub components-own : (c m : List ℕ) (n : ℕ) → length c ≡ length m → n ≤ length c → put c 0 (numbers (take n (paired c m))) ≡ c
components-own c m n e h =
    ap (λ (row : List Input). put c 0 (numbers row)) (sym (paired-take n c m))
    ∙ ap (λ (x : List ℕ). put c 0 x) (paired-numbers (take n c) (take n m) (front_long c m n e))
    ∙ put-own c n h

pub masks-own : (c m : List ℕ) (n : ℕ) → length c ≡ length m → n ≤ length c → put m 0 (masks (take n (paired c m))) ≡ m
masks-own c m n e h =
    ap (λ (row : List Input). put m 0 (masks row)) (sym (paired-take n c m))
    ∙ ap (λ (x : List ℕ). put m 0 x) (paired-masks (take n c) (take n m) (front_long c m n e))
    ∙ put-own m n (omega (arith, e))

numbers-front : (l : List ℕ) (n : ℕ) → numbers (take n (map unmasked l)) ≡ take n l
numbers-front l zero = refl
numbers-front [] (suc n) = refl
numbers-front (a ∷ l) (suc n) = ap (λ (r : List ℕ). a ∷ r) (numbers-front l n)

pub inputs-own : (l : List ℕ) (n : ℕ) → n ≤ length l → put l 0 (numbers (take n (map unmasked l))) ≡ l
inputs-own l n h = ap (λ (x : List ℕ). put l 0 x) (numbers-front l n) ∙ put-own l n h

-- How many classes a block and its parts have, in the terms in which code works it out: each state of the first component has the same share.
use Prim.Native.Nat.{ℕ, suc, ◌+◌, ◌*◌, ◌/◌, ◌<◌, ◌≤◌}
use mathlib.Core.Path.{◌≡◌, refl, ap, ◌∙◌}
use mathlib.Core.List.{List, [], ◌∷◌}
use native.Mathlib.Nat.{mul-le-mul_right, mul-div_cancel_left}
use native.Mathlib.Omega.{arith}
use lib.ListN.{length, get_or, drop, length-drop}
use lib.Seq.{length-take-le}
use Rattle.lists.specs.Product.{product}
use Rattle.paths.specs.Paths.{part}
use Rattle.paths.specs.Blocks.{Block}

-- the part of a state stands inside the block
pub part-inside : (states size s n : ℕ) → n ≡ states * size → s < states → s * size + size ≤ n
part-inside states size s n e h =
    let room : suc s * size ≤ states * size = mul-le-mul_right size h in
    omega (arith, room, e)

-- and has the classes that it should
pub part-long : (states size s : ℕ) (block : List ℕ) → length block ≡ states * size → s < states → length (part size s block) ≡ size
part-long states size s block e h =
    let inside = part-inside states size s (length block) e h in
    length-take-le size (drop (s * size) block) (rw (length-drop (s * size) block) (omega (arith, inside)))

module _ (counts block : List ℕ) (b : Block counts block) where
  -- with no component there is one class
  pub one_class : length counts ≡ 0 → length block ≡ 1
  unfolding product
  one_class none = b.long ∙ empty counts none
    where
      empty : (l : List ℕ) → length l ≡ 0 → product l ≡ 1
      empty [] e = refl
      empty (c ∷ cs) e = absurd (omega arith)

  module _ (some : 0 < length counts) where
    pub states-some : 0 < get_or counts 0 0
    states-some = b.some 0 some

    pub shares : length block ≡ get_or counts 0 0 * product (drop 1 counts)
    unfolding product
    shares = b.long ∙ split counts some
      where
        split : (l : List ℕ) → 0 < length l → product l ≡ get_or l 0 0 * product (drop 1 l)
        split [] h = absurd (omega arith)
        split (c ∷ cs) h = refl

    pub part-size : length block / get_or counts 0 0 ≡ product (drop 1 counts)
    part-size = ap (λ (n : ℕ). n / get_or counts 0 0) shares ∙ mul-div_cancel_left (product (drop 1 counts)) states-some

    pub whole_parts : length block ≡ get_or counts 0 0 * (length block / get_or counts 0 0)
    whole_parts = rw part-size shares

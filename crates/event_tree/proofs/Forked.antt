-- The first component of a block, where paths go on: the parts that its ways lead to, and the paths of the ways from s
-- on.
use Rattle.std.proofs.Common.{ℕ, suc, ◌+◌, ◌-◌, ◌*◌, ◌/◌, ◌<◌, ◌≤◌, ◌≡◌, refl, sym, ap, ◌∙◌, Bool, true, false, List}
use Rattle.std.proofs.Common.{[], ◌∷◌, ◌++◌, arith, length, get_or, take, drop}
use native.Mathlib.Nat.{sub-zero, mul-pos}
use lib.ListN.{length-drop}
use lib.Seq.{take_all, length-take-le}
use Rattle.lists.specs.Product.{product}
use Rattle.joint_states.specs.JointStates.{divided}
use Rattle.entries.specs.Entries.{blank_mark, entry}
use Rattle.paths.specs.Blocks.{Block}
use Rattle.paths.specs.Paths.{part, is_blank, paths}
use Rattle.paths.specs.Ways.{mark, ways, branches}
use Rattle.paths.proofs.Parts.{part-block}
use Rattle.paths.proofs.Sizes.{states-some, shares, part-size, part-inside}
use Rattle.paths.proofs.Ways.{headed, ways-most, paths-branches}
use Rattle.event_tree.specs.declared.blank.Ways.{Ways}
use Rattle.event_tree.specs.declared.parts.Fork.{Fork}
use Rattle.event_tree.specs.Ways.{ways_of, blank_in, number_in, WaysAt}

-- ---- no component is left

pub no-fork : (counts block : List ℕ) → length counts ≡ 0 → paths counts block ≡ entry [] (get_or block 0 0) ∷ []
unfolding paths
no-fork [] block e = refl
no-fork (c ∷ cs) block e = absurd (omega (arith, e))

product-some : (ns : List ℕ) → ((k : ℕ) → k < length ns → 0 < get_or ns k 0) → 0 < product ns
unfolding product
product-some [] some = omega arith
product-some (n ∷ ns) some = mul-pos (some 0 (omega arith)) (product-some ns (λ k h. some (suc k) (omega arith)))

-- a block has a class at least
pub block_some : (counts block : List ℕ) → Block counts block → 0 < length block
block_some counts block b = rw b.long (product-some counts b.some)

-- the later components, as the code takes them
pub later-is : (counts : List ℕ) → take (length counts - 1) (drop 1 counts) ≡ drop 1 counts
later-is counts = take_all (length counts - 1) (drop 1 counts) (rw (length-drop 1 counts) (omega arith))

-- ---- the ways on

-- what the code works out of the first component
pub ways-at : (counts block : List ℕ) (w : Ways) → Block counts block → 0 < length counts
    → w ≡ ways_of (is_blank (get_or counts 0 0) (length block / get_or counts 0 0) block) (get_or counts 0 0)
    → WaysAt counts block w (length block / get_or counts 0 0)
ways-at counts block w b some is =
    let size = part-size counts block b some in
    record { size = size; ways = rw size at is }

ways-blank : (b : Bool) (states : ℕ) → blank_in (ways_of b states) ≡ b
ways-blank true states = refl
ways-blank false states = refl

ways-number : (b : Bool) (states : ℕ) → number_in (ways_of b states) ≡ ways b states
unfolding ways
ways-number true states = refl
ways-number false states = refl

module _ (counts block : List ℕ) (w : Ways) (m : ℕ) (b : Block counts block) (some : 0 < length counts)
    (at : WaysAt counts block w m) where
  -- a way on is a state of the component
  way-state : (s : ℕ) → s < number_in w → s < get_or counts 0 0
  way-state s h =
      let blank : Bool = is_blank (get_or counts 0 0) (product (drop 1 counts)) block in
      let number : number_in w ≡ ways blank (get_or counts 0 0) = ap number_in at.ways
      ∙ ways-number blank (get_or counts 0 0) in
      omega (arith, h, number, ways-most blank (get_or counts 0 0) (states-some counts block b some))

  -- no way is numbered as the blank mark
  pub way-most : (s : ℕ) → s < number_in w → s < blank_mark
  way-most s h = omega (arith, way-state s h, b.most 0 some)

  pub way-inside : (s : ℕ) → s < number_in w → s * m + m ≤ length block
  way-inside s h =
      rw at.size (part-inside (get_or counts 0 0) (product (drop 1 counts)) s (length block)
      (shares counts block b some) (way-state s h))

  -- each leads to a block of the later components
  pub way-block : (s : ℕ) → s < number_in w → Block (drop 1 counts) (part m s block)
  way-block s h = rw at.size (go counts b some (way-state s h))
    where
      go : (l : List ℕ) → Block l block → 0 < length l → s < get_or l 0 0
          → Block (drop 1 l) (part (product (drop 1 l)) s block)
      go [] b some less = absurd (omega arith)
      go (c ∷ cs) b some less = part-block b s less

  way-paths : paths counts block ≡ divided (mark (blank_in w)) (λ (s : ℕ). paths (drop 1 counts) (part m s block)) 0
      (number_in w)
  unfolding branches
  way-paths =
      let blank : Bool = is_blank (get_or counts 0 0) (product (drop 1 counts)) block in
      rw (at.ways, ways-blank blank (get_or counts 0 0), ways-number blank (get_or counts 0 0), at.size)
      (go counts some)
    where
      go : (l : List ℕ) → 0 < length l → paths l block
          ≡ divided (mark (is_blank (get_or l 0 0) (product (drop 1 l)) block)) (λ (s : ℕ). paths (drop 1 l) (part
          (product (drop 1 l)) s block)) 0
          (ways (is_blank (get_or l 0 0) (product (drop 1 l)) block) (get_or l 0 0))
      go [] some = absurd (omega arith)
      go (c ∷ cs) some = paths-branches c cs block

module _ (f : Fork) where
  pub fork-most : {s : ℕ} → s < number_in f.ways → s < blank_mark
  fork-most {s} h = way-most f.block.counts.now f.block.classes.now f.ways f.size f.block.whole f.some f.at s h

  pub fork-inside : {s : ℕ} → s < number_in f.ways → s * f.size + f.size ≤ length f.block.classes.now
  fork-inside {s} h = way-inside f.block.counts.now f.block.classes.now f.ways f.size f.block.whole f.some f.at s h

  -- the later components are fewer
  pub fork-fewer : {later : List ℕ} → later ≡ drop 1 f.block.counts.now → length later + 1 ≡ length f.block.counts.now
  fork-fewer {later} e = rw (e, length-drop 1 f.block.counts.now) (omega (arith, f.some))

  -- the part of a way has no more classes than the block
  pub fork-smaller : {s : ℕ} → s < number_in f.ways → length (part f.size s f.block.classes.now) ≤ length
      f.block.classes.now
  fork-smaller {s} h =
      let block : List ℕ = f.block.classes.now in
      let room : f.size ≤ length (drop (s * f.size) block) = rw (length-drop (s * f.size) block) (omega
      (arith, fork-inside h)) in
      omega (arith, length-take-le f.size (drop (s * f.size) block) room, fork-inside h)

  -- ---- the paths of the ways from s on

  -- those that one of the ways leads to
  abbrev pub rows : ℕ → List (List ℕ)
  rows s = paths (drop 1 f.block.counts.now) (part f.size s f.block.classes.now)

  abbrev pub left : ℕ → List (List ℕ)
  left s = divided (mark (blank_in f.ways)) rows s (number_in f.ways - s)

  pub left-all : left 0 ≡ paths f.block.counts.now f.block.classes.now
  left-all = rw sub-zero (sym (way-paths f.block.counts.now f.block.classes.now f.ways f.size f.block.whole f.some
      f.at))

  -- those of the next way, and the rest
  pub left-next : (s : ℕ) → s < number_in f.ways → left s ≡ headed (mark (blank_in f.ways) s) (rows s) ++ left (s + 1)
  unfolding divided
  left-next s h =
      let more : number_in f.ways - s ≡ suc (number_in f.ways - (s + 1)) = omega arith in
      ap (divided (mark (blank_in f.ways)) rows s) more

  pub left-none : (s : ℕ) → number_in f.ways ≤ s → left s ≡ []
  unfolding divided
  left-none s h =
      let none : number_in f.ways - s ≡ 0 = omega arith in
      ap (divided (mark (blank_in f.ways)) rows s) none

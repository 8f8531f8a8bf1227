-- What carries the filling of a branch: settled marks in front lead to the one part that is left to fill (`Ahead`); at
-- a blank one the parts of its states are filled one by one (`Filled`).
use Rattle.std.proofs.Common.{ℕ, zero, suc, ◌+◌, ◌-◌, ◌*◌, ◌/◌, ◌<◌, ◌≤◌, ◌≡◌, refl, sym, ap, ◌∙◌, Bool, true, false}
use Rattle.std.proofs.Common.{◌&&◌, ◌||◌, List, [], ◌∷◌, ◌++◌, arith, length, get_or, take, drop, take-append-drop}
use mathlib.Core.List.{map, append_assoc, append-nil}
use native.Mathlib.Nat.{zero-mul, zero-add, add-zero, sub-zero, mul-div_cancel_left}
use lib.Dec.{eqb}
use lib.ListN.{set, length-map, length-drop}
use lib.Seq.{length-take-le, take_all, take-add, drop-drop, drop-cons, get_or-drop, set_split}
use borrow.Author.Tests.{eq-eqb, ne_eqb}
use Rattle.lists.specs.Product.{product}
use Rattle.lists.proofs.Lent.{lent_back, back-front, back-behind, back_long}
use Rattle.joint_states.specs.JointStates.{divided, joint_states}
use Rattle.joint_states.proofs.Numbered.{length-joint_states}
use Rattle.entries.specs.Entries.{blank_mark}
use Rattle.paths.specs.Blocks.{Block}
use Rattle.paths.specs.Words.{fits}
use Rattle.paths.proofs.Sizes.{one_class, states-some, shares, part-inside}
use Rattle.drawn_tree.specs.Filling.{painted, branch_filled}
use Rattle.drawn_tree.proofs.Painted.{length-painted, painted-append, painted-map, painted-none}

-- ---- the parts of the states from s on

module _ (class mark : ℕ) (later behind : List ℕ) where
  -- n states from s on, over so much of the block as they take
  abbrev left : ℕ → ℕ → List ℕ → List ℕ
  left s n block = painted (λ x. fits x (mark ∷ behind)) (λ x. class) (divided (λ s. s)
      (λ s. joint_states later) s n) block

  -- a block of the later components, filled where a state suits the mark
  abbrev own : Bool → List ℕ → List ℕ
  own suits block = painted (λ x. suits && fits x behind) (λ x. class) (joint_states later) block

  -- the part of state s is such a block
  left-next : (s n : ℕ) (block : List ℕ) → product later ≤ length block
      → left s (suc n) block ≡ own (eqb mark blank_mark || eqb mark s) (take (product later) block)
      ++ left (s + 1) n (drop (product later) block)
  unfolding divided fits
  left-next s n block room =
      let suited : List ℕ → Bool = λ x. fits x (mark ∷ behind) in
      let rows = joint_states later in
      let headed : List ℕ → List ℕ = λ x. s ∷ x in
      let first = take (product later) block in
      let rest = drop (product later) block in
      ap (left s (suc n)) (sym (take-append-drop (product later) block))
      ∙ painted-append suited (λ x. class) (map headed rows) (divided (λ s. s) (λ s. rows) (s + 1) n) first rest
      (length-map rows headed ∙ length-joint_states later ∙ sym (length-take-le (product later) block room))
      ∙ ap (λ (l : List ℕ). l ++ left (s + 1) n rest) (painted-map suited (λ x. class) headed rows first)

  left-none : (s : ℕ) (block : List ℕ) → left s 0 block ≡ block
  unfolding divided painted
  left-none s block = refl

  -- what stands behind a part stays
  filled-first : (block : List ℕ) → product later ≤ length block
      → branch_filled later behind class (take (product later) block) ++ drop (product later) block
      ≡ branch_filled later behind class block
  unfolding branch_filled painted
  filled-first block room =
      let suited : List ℕ → Bool = λ x. fits x behind in
      let rows = joint_states later in
      let first = take (product later) block in
      let rest = drop (product later) block in
      sym (painted-append suited (λ x. class) rows [] first rest (length-joint_states later
      ∙ sym (length-take-le (product later) block room)))
      ∙ ap (λ (l : List (List ℕ)). painted suited (λ x. class) l (first ++ rest)) (append-nil rows)
      ∙ ap (painted suited (λ x. class) rows) (take-append-drop (product later) block)

  -- a mark that is settled passes over the states that are not its own
  module _ (settled : mark ≡ blank_mark → ⊥) where
    passed : (n k s : ℕ) (block : List ℕ) → (n + k) * product later ≤ length block → ((j : ℕ) → s ≤ j → j < s + n
        → mark ≡ j → ⊥)
        → left s (n + k) block ≡ take (n * product later) block ++ left (s + n) k (drop (n * product later) block)
    passed zero k s block room others = rw (zero-mul, zero-add k, add-zero s) refl
    passed (suc n) k s block room others =
        let m = product later in
        let other = others s (omega arith) (omega arith) in
        let rest = drop m block in
        let enough : (n + k) * m ≤ length rest = rw (length-drop m block) (omega (arith, room)) in
        let more = passed n k (s + 1) rest enough (λ j least less. others j (omega arith) (omega arith)) in
        let none = painted-none (λ x. false) (λ x. class) (joint_states later) (take m block) (λ j h. refl) in
        let first : own (eqb mark blank_mark || eqb mark s) (take m block)
        ≡ take m block = rw (ne_eqb mark blank_mark settled, ne_eqb mark s other) none in
        let turn : suc n + k ≡ suc (n + k) = omega arith in
        let place : s + 1 + n ≡ s + suc n = omega arith in
        let front : m + n * m ≡ suc n * m = omega arith in
        ap (λ (j : ℕ). left s j block) turn
        ∙ left-next s (n + k) block (omega (arith, room))
        ∙ (λ i. first i ++ more i)
        ∙ sym (append_assoc (take m block) (take (n * m) rest) (left (s + 1 + n) k (drop (n * m) rest)))
        ∙ (λ i. sym (take-add m (n * m) block) i ++ left (place i) k (drop-drop (n * m) m block i))
        ∙ ap (λ (j : ℕ). take j block ++ left (s + suc n) k (drop j block)) front

    all-passed : (n s : ℕ) (block : List ℕ) → n * product later ≤ length block → ((j : ℕ) → s ≤ j → j < s + n
        → mark ≡ j → ⊥) → left s n block ≡ block
    all-passed n s block room others =
        let m = product later in
        ap (λ (j : ℕ). left s j block) (sym (add-zero n))
        ∙ passed n 0 s block (rw (add-zero n) room) others
        ∙ ap (λ (l : List ℕ). take (n * m) block ++ l) (left-none (s + n) (drop (n * m) block))
        ∙ take-append-drop (n * m) block

    -- no state is its own
    no_own : (states : ℕ) (block : List ℕ) → states * product later ≤ length block → states ≤ mark
        → branch_filled (states ∷ later) (mark ∷ behind) class block ≡ block
    unfolding branch_filled joint_states
    no_own states block room h = all-passed states 0 block room (λ j least less same. omega arith)

    -- the part of its own state is filled, with n states behind it
    own-part : (n : ℕ) (block : List ℕ) → suc n * product later ≤ length block
        → left mark (suc n) block ≡ branch_filled later behind class block
    unfolding branch_filled
    own-part n block room =
        let m = product later in
        let here : (eqb mark blank_mark || eqb mark mark) ≡ true = rw
        (ne_eqb mark blank_mark settled, eq-eqb mark mark refl) refl in
        let enough : n * m ≤ length (drop m block) = rw (length-drop m block) (omega (arith, room)) in
        left-next mark n block (omega (arith, room))
        ∙ (λ i. own (here i) (take m block) ++ all-passed n (mark + 1) (drop m block) enough
        (λ j least less same. omega arith) i)
        ∙ filled-first block (omega (arith, room))

    own-only : (states : ℕ) (block : List ℕ) → states * product later ≤ length block → mark < states
        → branch_filled (states ∷ later) (mark ∷ behind) class block
        ≡ take (mark * product later) block ++ branch_filled later behind class (drop (mark * product later) block)
    unfolding branch_filled joint_states
    own-only states block room h =
        let m = product later in
        let n = states - (mark + 1) in
        let all : states ≡ mark + suc n = omega arith in
        let wide : (mark + suc n) * m ≤ length block = rw all at room in
        let rest = drop (mark * m) block in
        let enough : suc n * m ≤ length rest = rw (length-drop (mark * m) block) (omega (arith, wide)) in
        ap (λ (j : ℕ). left 0 j block) all
        ∙ passed mark (suc n) 0 block wide (λ j least less same. omega arith)
        ∙ ap (λ (s : ℕ). take (mark * m) block ++ left s (suc n) rest) (zero-add mark)
        ∙ ap (λ (l : List ℕ). take (mark * m) block ++ l) (own-part n rest enough)

-- ---- a component is left

-- the later components, or their marks, as the code takes them
pub later-is : (l : List ℕ) → take (length l - 1) (drop 1 l) ≡ drop 1 l
later-is l = take_all (length l - 1) (drop 1 l) (rw (length-drop 1 l) (omega arith))

first-and-later : (l : List ℕ) → 0 < length l → l ≡ get_or l 0 0 ∷ drop 1 l
first-and-later [] some = absurd (omega arith)
first-and-later (x ∷ xs) some = refl

-- ---- its mark is blank: the parts of the states below s are filled, from a place on

pub record Filled (counts₀ marks₀ : List ℕ) (class : ℕ) (block₀ : List ℕ) (states size : ℕ) (later behind : List ℕ)
    (from s : ℕ) (block : List ℕ) : Type 0 where
  pub fewer : length later < length counts₀
  pub few : length later ≤ length behind
  pub some : (k : ℕ) → k < length later → 0 < get_or later k 0
  pub most : (k : ℕ) → k < length later → get_or later k 0 ≤ blank_mark
  pub is_size : size ≡ product later
  pub inside : from + states * size ≤ length block
  pub same : take (from + s * size) block
      ++ left class blank_mark later behind s (states - s) (drop (from + s * size) block)
      ≡ branch_filled counts₀ marks₀ class block₀

module _ {counts₀ marks₀ : List ℕ} {class : ℕ} {block₀ : List ℕ} {states size : ℕ} {later behind : List ℕ} {from s : ℕ}
    {block : List ℕ} (f : Filled counts₀ marks₀ class block₀ states size later behind from s block) where
  pub filled-done : states ≤ s → block ≡ branch_filled counts₀ marks₀ class block₀
  filled-done h =
      let at : ℕ = from + s * size in
      let none : states - s ≡ 0 = omega arith in
      sym (take-append-drop at block)
      ∙ ap (λ (l : List ℕ). take at block ++ l) (sym (left-none class blank_mark later behind s (drop at block)))
      ∙ (rw none at f.same)

  module _ (h : s < states) where
    filled-inside : from + s * size + size ≤ length block
    filled-inside = omega (arith, part-inside states size s (states * size) refl h, f.inside)

    part-long : length (take size (drop (from + s * size) block)) ≡ size
    part-long = length-take-le size (drop (from + s * size) block) (rw (length-drop (from + s * size) block) (omega
        (arith, filled-inside)))

    -- the part of state s is filled too
    pub filled_more : {p : List ℕ} → p ≡ branch_filled later behind class (take size (drop (from + s * size) block))
        → Filled counts₀ marks₀ class block₀ states size later behind from (s + 1)
        (lent_back block p (from + s * size) size)
    unfolding branch_filled
    filled_more {p = p} wrote =
        let at : ℕ = from + s * size in
        let n : ℕ = states - (s + 1) in
        let long : length p ≡ size = ap length wrote ∙ length-painted (λ x. fits x behind) (λ x. class)
        (joint_states later) (take size (drop at block)) ∙ part-long in
        let more : states - s ≡ suc n = omega arith in
        let rest = left class blank_mark later behind (s + 1) n in
        let enough : product later ≤ length (drop at block) = rw (length-drop at block, sym f.is_size) (omega
        (arith, filled-inside)) in
        let next : p ++ rest (drop (at + size) block)
        ≡ left class blank_mark later behind s (states - s) (drop at block) =
        (λ i. wrote i ++ rest (sym (drop-drop size at block) i))
        ∙ ap (λ (k : ℕ). own class blank_mark later behind true (take k (drop at block))
        ++ rest (drop k (drop at block))) f.is_size
        ∙ sym (left-next class blank_mark later behind s n (drop at block) enough)
        ∙ ap (λ (k : ℕ). left class blank_mark later behind s k (drop at block)) (sym more) in
        let place : from + (s + 1) * size ≡ at + size = omega arith in
        record {
          fewer = f.fewer;
          few = f.few;
          some = f.some;
          most = f.most;
          is_size = f.is_size;
          inside = rw (back_long block p at size filled-inside long) f.inside;
          same =
              rw (place, back-front block p at size filled-inside long, back-behind block p at size filled-inside long)
              (append_assoc (take at block) p (rest (drop (at + size) block))
              ∙ ap (λ (l : List ℕ). take at block ++ l) next ∙ f.same);
        }

-- ---- the loop over the settled marks in front: what is left to fill is a part of the block, by the marks behind them

pub record Ahead (counts₀ marks₀ : List ℕ) (class : ℕ) (block₀ : List ℕ) (counts marks : List ℕ) (from size : ℕ)
    (block : List ℕ) : Type 0 where
  pub whole : Block counts (take size (drop from block))
  pub inside : from + size ≤ length block
  pub fewer : length counts ≤ length counts₀
  pub few : length counts ≤ length marks
  pub same : take from block ++ branch_filled counts marks class (drop from block)
      ≡ branch_filled counts₀ marks₀ class block₀

-- with no component left the one class is put
filled-one : (counts marks : List ℕ) (class x : ℕ) (rest : List ℕ) → length counts ≡ 0
    → class ∷ rest ≡ branch_filled counts marks class (x ∷ rest)
unfolding branch_filled painted fits joint_states
filled-one [] marks class x rest none = refl
filled-one (c ∷ cs) marks class x rest none = absurd (omega arith)

module _ {counts₀ marks₀ : List ℕ} {class : ℕ} {block₀ counts marks : List ℕ} {from size : ℕ} {block : List ℕ}
    (a : Ahead counts₀ marks₀ class block₀ counts marks from size block) where
  long : length (take size (drop from block)) ≡ size
  long = length-take-le size (drop from block) (rw (length-drop from block) (omega (arith, a.inside)))

  -- no component is left
  module _ (none : length counts ≡ 0) where
    pub ahead-place : from < length block
    ahead-place = omega (arith, long, one_class counts _ a.whole none, a.inside)

    pub ahead-one : set block from class ≡ branch_filled counts₀ marks₀ class block₀
    ahead-one =
        let first : class ∷ drop (suc from) block ≡ branch_filled counts marks class (drop from block)
        = rw (drop-cons block from 0 ahead-place) (filled-one counts marks class (get_or block from 0)
        (drop (suc from) block) none) in
        set_split block from class ahead-place ∙ ap (λ (l : List ℕ). take from block ++ l) first ∙ a.same

  module _ (some : 0 < length counts) where
    abbrev states : ℕ
    states = get_or counts 0 0

    abbrev mark : ℕ
    mark = get_or marks 0 0

    abbrev later : List ℕ
    later = drop 1 counts

    abbrev behind : List ℕ
    behind = drop 1 marks

    each : size ≡ states * product later
    each = sym long ∙ shares counts _ a.whole some

    is-size : size / states ≡ product later
    is-size = ap (λ (n : ℕ). n / states) each ∙ mul-div_cancel_left (product later) (states-some counts _ a.whole some)

    room : states * product later ≤ length (drop from block)
    room = rw (length-drop from block) (omega (arith, each, a.inside))

    later-fewer : length later < length counts₀
    later-fewer = rw (length-drop 1 counts) (omega (arith, some, a.fewer))

    later-few : length later ≤ length behind
    later-few = rw (length-drop 1 counts, length-drop 1 marks) (omega (arith, a.few))

    later-some : (k : ℕ) → k < length later → 0 < get_or later k 0
    later-some k less = rw (get_or-drop 1 counts k 0) (a.whole.some (1 + k) (omega
        (arith, less, length-drop 1 counts)))

    later-most : (k : ℕ) → k < length later → get_or later k 0 ≤ blank_mark
    later-most k less = rw (get_or-drop 1 counts k 0) (a.whole.most (1 + k) (omega
        (arith, less, length-drop 1 counts)))

    split : take from block ++ branch_filled (states ∷ later) (mark ∷ behind) class (drop from block)
        ≡ branch_filled counts₀ marks₀ class block₀
    split =
        (λ i. take from block ++ branch_filled (sym (first-and-later counts some) i)
        (sym (first-and-later marks (omega (arith, some, a.few))) i) class (drop from block)) ∙ a.same

    -- its mark is blank: its states are to be filled one by one
    pub ahead-blank : mark ≡ blank_mark
        → Filled counts₀ marks₀ class block₀ states (size / states) later behind from 0 block
    unfolding branch_filled joint_states
    ahead-blank blank =
        record {
          fewer = later-fewer;
          few = later-few;
          some = later-some;
          most = later-most;
          is_size = is-size;
          inside = rw is-size (omega (arith, each, a.inside));
          same = rw (zero-mul, add-zero, sub-zero, sym blank) split;
        }

    -- its mark is settled
    module _ (settled : mark ≡ blank_mark → ⊥) where
      -- and no state
      pub ahead-nowhere : states ≤ mark → block ≡ branch_filled counts₀ marks₀ class block₀
      ahead-nowhere high =
          sym (take-append-drop from block)
          ∙ ap (λ (l : List ℕ). take from block ++ l) (sym (no_own class mark later behind settled states
          (drop from block) room high))
          ∙ split

      -- it leads to the part of its state
      module _ (low : mark < states) where
        ahead-inside : from + mark * (size / states) + size / states ≤ length block
        ahead-inside = rw is-size (omega (arith, part-inside states (product later) mark size each low, a.inside))

        pub ahead-settled : Ahead counts₀ marks₀ class block₀ later behind (from + mark * (size / states))
            (size / states) block
        ahead-settled =
            let m : ℕ = product later in
            let at : ℕ = from + mark * (size / states) in
            let part : length (take (size / states) (drop at block)) ≡ size / states = length-take-le (size / states)
            (drop at block) (rw (length-drop at block) (omega (arith, ahead-inside))) in
            record {
              whole = record { long = part ∙ is-size; some = later-some; most = later-most };
              inside = ahead-inside;
              fewer = omega (arith, later-fewer);
              few = later-few;
              same =
                  rw is-size
                  ((λ i. take-add from (mark * m) block i ++ branch_filled later behind class
                  (sym (drop-drop (mark * m) from block) i))
                  ∙ append_assoc (take from block) (take (mark * m) (drop from block))
                  (branch_filled later behind class (drop (mark * m) (drop from block)))
                  ∙ ap (λ (l : List ℕ). take from block ++ l)
                  (sym (own-only class mark later behind settled states (drop from block) room low))
                  ∙ split);
            }

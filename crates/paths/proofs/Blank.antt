-- A path leaves a component blank exactly when its state changes no loss there: by induction over the components. The first is blank exactly where
-- the parts of its states are alike, and a joint state that has the path's state there, or any if it is blank, has its class in the path's part.
use Prim.Native.Nat.{ℕ, zero, suc, ◌<◌}
use mathlib.Core.Path.{◌≡◌, refl, sym, ap, subst, ◌∙◌}
use mathlib.Core.Bool.{Bool, true, false}
use mathlib.Core.List.{List, [], ◌∷◌}
use native.Mathlib.Nat.{zero-lt-suc, not-suc-le-zero, le_of_suc-le-suc}
use native.Mathlib.Omega.{arith}
use lib.ListN.{get_or}
use lib.Seq.{ext_get_or}
use Rattle.lists.specs.Product.{product}
use Rattle.joint_states.specs.JointStates.{JointState}
use Rattle.joint_states.proofs.Numbered.{with_number, joint-head, joint-tail, joint-none}
use Rattle.entries.specs.Entries.{blank_mark}
use Rattle.paths.specs.Paths.{part, is_blank}
use Rattle.paths.specs.Ways.{mark}
use Rattle.paths.specs.Words.{Blank, ChangesNoLoss, BlankIff}
use Rattle.paths.specs.Blocks.{Block, class_at}
use Rattle.paths.specs.Theorems.{BlankExactly}
use Rattle.paths.proofs.Alike.{blank-alike, alike-blank}
use Rattle.paths.proofs.Differ.{Meets, differ-first, first-differs, differ-later, later-differs}
use Rattle.paths.proofs.Parts.{first_some, first-most, part-block, class-part}
use Rattle.paths.proofs.Placed.{path-placed}
use Rattle.paths.proofs.Ways.{part_paths}

-- ---- marks

blank-marked : (b : Bool) (s : ℕ) → s < blank_mark → mark b s ≡ blank_mark → b ≡ true
unfolding mark
blank-marked true s h e = refl
blank-marked false s h e = absurd (omega arith)

marked-blank : (b : Bool) (s : ℕ) → b ≡ true → mark b s ≡ blank_mark
unfolding mark
marked-blank b s e = rw e

own-mark : (b : Bool) (s : ℕ) → Meets (mark b s) s
unfolding mark
own-mark true s settled = absurd (settled refl)
own-mark false s settled = refl

module _ (c : ℕ) (cs block : List ℕ) (b : Block (c ∷ cs) block) where
  -- what an entry holds for the first component, in state s
  abbrev first_mark : ℕ → ℕ
  first_mark = mark (is_blank c (product cs) block)

  -- ---- the first component

  alike-no-loss : is_blank c (product cs) block ≡ true → (entry : List ℕ) → ChangesNoLoss (c ∷ cs) (class_at (c ∷ cs) block) 0 entry
  alike-no-loss e entry [] y d = absurd (joint-none d.first)
  alike-no-loss e entry (s ∷ x) [] d = absurd (joint-none d.second)
  alike-no-loss e entry (s ∷ x) (t ∷ y) d =
      class-part c cs block s x (joint-tail d.first)
      ∙ ap (λ (p : List ℕ). class_at cs p x) (blank-alike c (product cs) block e s t (joint-head d.first) (joint-head d.second))
      ∙ ap (class_at cs (part (product cs) t block)) (differ-first d)
      ∙ sym (class-part c cs block t y (joint-tail d.second))

  no-loss-alike : (entry : List ℕ) → ChangesNoLoss (c ∷ cs) (class_at (c ∷ cs) block) 0 entry → (s : ℕ) → s < c
      → part (product cs) 0 block ≡ part (product cs) s block
  no-loss-alike entry same s h =
      let m = product cs in
      let first = part-block b 0 (first_some b) in
      ext_get_or 0 (part m 0 block) (part m s block) (first.long ∙ sym (part-block b s h).long)
      (λ k less.
      let w = with_number cs k (rw first.long at less) in
      let x = w.joint in
      rw (sym w.number)
      (sym (class-part c cs block 0 x w.is_joint)
      ∙ same (0 ∷ x) (s ∷ x) (first-differs (first_some b) h w.is_joint)
      ∙ class-part c cs block s x w.is_joint))

  first-exactly : (s : ℕ) (row : List ℕ) → s < c → BlankIff (c ∷ cs) (class_at (c ∷ cs) block) 0 (first_mark s ∷ row)
  first-exactly s row h =
      let blank = is_blank c (product cs) block in
      record {
        blank = λ e. alike-no-loss (blank-marked blank s (omega (arith, first-most b)) e) (mark blank s ∷ row);
        settled = λ same. marked-blank blank s (alike-blank c (product cs) block (no-loss-alike (mark blank s ∷ row) same));
      }

  -- ---- a later component, on a path from the part of state s

  -- a state that the path has, or any if the component is blank, leads to a part that is alike
  met-part : (blank : Bool) → is_blank c (product cs) block ≡ blank → (s t : ℕ) → s < c → t < c → Meets (mark blank s) t
      → part (product cs) t block ≡ part (product cs) s block
  unfolding mark
  met-part true e s t h less met = blank-alike c (product cs) block e t s less h
  met-part false e s t h less met = ap (λ (k : ℕ). part (product cs) k block) (met (λ same. omega (arith, first-most b)))

  module _ (k s : ℕ) (row : List ℕ) (h : s < c) (rest : BlankIff cs (class_at cs (part (product cs) s block)) k row) where
    -- the class in the path's part
    class-met : (t : ℕ) (x : List ℕ) → JointState (c ∷ cs) (t ∷ x) → Meets (first_mark s) t
        → class_at (c ∷ cs) block (t ∷ x) ≡ class_at cs (part (product cs) s block) x
    class-met t x j met =
        class-part c cs block t x (joint-tail j)
        ∙ ap (λ (p : List ℕ). class_at cs p x) (met-part (is_blank c (product cs) block) refl s t h (joint-head j) met)

    later-no-loss : Blank row k → ChangesNoLoss (c ∷ cs) (class_at (c ∷ cs) block) (suc k) (first_mark s ∷ row)
    later-no-loss e [] y d = absurd (joint-none d.first)
    later-no-loss e (t ∷ x) [] d = absurd (joint-none d.second)
    later-no-loss e (t ∷ x) (u ∷ y) d =
        let met = d.before 0 (zero-lt-suc k) in
        class-met t x d.first met
        ∙ rest.blank e x y (differ-later d)
        ∙ sym (class-met u y d.second (λ settled. sym (d.others 0 (λ same. omega arith)) ∙ met settled))

    later-exactly : BlankIff (c ∷ cs) (class_at (c ∷ cs) block) (suc k) (first_mark s ∷ row)
    later-exactly =
        let blank = is_blank c (product cs) block in
        record {
          blank = later-no-loss;
          settled =
              λ same.
              rest.settled
              (λ x y d.
              sym (class-part c cs block s x d.first)
              ∙ same (s ∷ x) (s ∷ y) (later-differs h (own-mark blank s) d)
              ∙ class-part c cs block s y d.second);
        }

pub blank-exactly : BlankExactly
blank-exactly [] block b i k h less = absurd (not-suc-le-zero less)
blank-exactly (c ∷ cs) block b i zero h less =
    let p = path-placed c cs block b i h in
    let own = first-exactly c cs block b p.state (get_or (part_paths cs block p.state) p.row []) p.below in
    subst (BlankIff (c ∷ cs) (class_at (c ∷ cs) block) 0) (sym p.holds) own
blank-exactly (c ∷ cs) block b i (suc k) h less =
    let p = path-placed c cs block b i h in
    let rest = blank-exactly cs (part (product cs) p.state block) (part-block b p.state p.below) p.row k p.inside (le_of_suc-le-suc less) in
    subst (BlankIff (c ∷ cs) (class_at (c ∷ cs) block) (suc k)) (sym p.holds)
    (later-exactly c cs block b k p.state (get_or (part_paths cs block p.state) p.row []) p.below rest)

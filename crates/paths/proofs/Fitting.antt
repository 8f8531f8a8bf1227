-- The paths that a joint state fits, among the branches at a component: those that its later states fit among the rows of its state, each with
-- its mark in front.
use Prim.Native.Nat.{ℕ, zero, suc, ◌+◌, ◌<◌, ◌≤◌}
use mathlib.Core.Path.{◌≡◌, refl, ap, ◌∙◌}
use mathlib.Core.Bool.{Bool, true, false, ◌||◌, cond}
use mathlib.Core.List.{List, [], ◌∷◌, ◌++◌, append-nil}
use mathlib.Core.Logic.{⊎_elim}
use native.Mathlib.Nat.{eq-or-lt_of_le}
use native.Mathlib.Omega.{arith}
use lib.Dec.{eqb}
use borrow.Author.Tests.{eq-eqb, ne_eqb}
use Rattle.lists.specs.Counting.{those}
use Rattle.joint_states.specs.JointStates.{divided}
use Rattle.entries.specs.Entries.{blank_mark}
use Rattle.paths.specs.Ways.{mark, ways, branches}
use Rattle.paths.specs.Words.{fits, fitting}
use Rattle.paths.proofs.Ways.{headed}

fitting-append : (x : List ℕ) (front rest : List (List ℕ)) → fitting x (front ++ rest) ≡ fitting x front ++ fitting x rest
unfolding those
fitting-append x [] rest = refl
fitting-append x (entry ∷ front) rest = rw (fitting-append x front rest) (go (fits x entry))
  where
    go : (b : Bool) → cond b (entry ∷ (fitting x front ++ fitting x rest)) (fitting x front ++ fitting x rest)
        ≡ cond b (entry ∷ fitting x front) (fitting x front) ++ fitting x rest
    go true = refl
    go false = refl

-- ---- rows with one mark in front

-- a mark that state s meets
abbrev met : ℕ → ℕ → Bool
met mark s = eqb mark blank_mark || eqb mark s

own-met : (s t : ℕ) → s ≡ t → met s t ≡ true
own-met s t e = rw (eq-eqb s t e) (go (eqb s blank_mark))
  where
    go : (b : Bool) → (b || true) ≡ true
    go true = refl
    go false = refl

other-unmet : (s t : ℕ) → s < blank_mark → (s ≡ t → ⊥) → met s t ≡ false
other-unmet s t h other = rw (ne_eqb s blank_mark (λ same. omega arith)) (ne_eqb s t other)

module _ (s : ℕ) (x : List ℕ) (m : ℕ) where
  fitting-met : met m s ≡ true → (rows : List (List ℕ)) → fitting (s ∷ x) (headed m rows) ≡ headed m (fitting x rows)
  unfolding those fits
  fitting-met e [] = refl
  fitting-met e (row ∷ rows) = rw (e, fitting-met e rows) (go (fits x row))
    where
      go : (b : Bool) → cond b ((m ∷ row) ∷ headed m (fitting x rows)) (headed m (fitting x rows)) ≡ headed m (cond b (row ∷ fitting x rows) (fitting x rows))
      go true = refl
      go false = refl

  fitting-unmet : met m s ≡ false → (rows : List (List ℕ)) → fitting (s ∷ x) (headed m rows) ≡ []
  unfolding those fits
  fitting-unmet e [] = refl
  fitting-unmet e (row ∷ rows) = rw e (fitting-unmet e rows)

-- ---- rows of each state, its own number in front

module _ (t : ℕ) (x : List ℕ) (rows : ℕ → List (List ℕ)) where
  passed : (s n : ℕ) → t < s → s + n ≤ blank_mark → fitting (t ∷ x) (divided (mark false) rows s n) ≡ []
  unfolding those divided mark
  passed s zero h most = refl
  passed s (suc n) h most =
      fitting-append (t ∷ x) (headed s (rows s)) (divided (mark false) rows (s + 1) n)
      ∙ rw (fitting-unmet t x s (other-unmet s t (omega arith) (λ same. omega arith)) (rows s)) (passed (s + 1) n (omega arith) (omega arith))

  here : (s n : ℕ) → s ≡ t → s + suc n ≤ blank_mark → fitting (t ∷ x) (divided (mark false) rows s (suc n)) ≡ headed t (fitting x (rows t))
  unfolding divided mark
  here s n same most =
      fitting-append (t ∷ x) (headed s (rows s)) (divided (mark false) rows (s + 1) n)
      ∙ rw (fitting-met t x s (own-met s t same) (rows s), passed (s + 1) n (omega arith) (omega arith)) (append-nil (headed s (fitting x (rows s))))
      ∙ ap (λ (k : ℕ). headed k (fitting x (rows k))) same

  among-states : (s n : ℕ) → s ≤ t → t < s + n → s + n ≤ blank_mark → fitting (t ∷ x) (divided (mark false) rows s n) ≡ headed t (fitting x (rows t))
  unfolding divided mark
  among-states s zero from h most = absurd (omega arith)
  among-states s (suc n) from h most =
      ⊎_elim (λ (same : s ≡ t). here s n same most)
      (λ (lower : s < t).
      fitting-append (t ∷ x) (headed s (rows s)) (divided (mark false) rows (s + 1) n)
      ∙ rw (fitting-unmet t x s (other-unmet s t (omega arith) (λ same. omega arith)) (rows s))
      (among-states (s + 1) n (omega arith) (omega arith) (omega arith)))
      (eq-or-lt_of_le from)

  -- ---- branches, where the rows of all states are alike if the component is blank

  pub fitting-branches : (b : Bool) (c : ℕ) → t < c → c ≤ blank_mark → (b ≡ true → rows 0 ≡ rows t)
      → fitting (t ∷ x) (branches b c rows) ≡ headed (mark b t) (fitting x (rows t))
  unfolding branches divided mark ways
  fitting-branches true c h most alike =
      ap (fitting (t ∷ x)) (append-nil (headed blank_mark (rows 0)))
      ∙ fitting-met t x blank_mark refl (rows 0)
      ∙ ap (λ (l : List (List ℕ)). headed blank_mark (fitting x l)) (alike refl)
  fitting-branches false c h most alike = among-states 0 c (omega arith) (omega arith) (omega arith)

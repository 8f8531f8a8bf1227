-- What comes of asking a component that is not asked above: the joint states that fit the branch of one of its states, and the components left to ask.
use Prim.Native.Nat.{ℕ, zero, suc, ◌<◌}
use mathlib.Core.Path.{◌≡◌, sym, ap, ◌∙◌}
use mathlib.Core.Bool.{Bool, ◌&&◌, ◌||◌, and_comm, and_assoc}
use mathlib.Core.List.{List, [], ◌∷◌}
use native.Mathlib.Nat.{not-suc-le-zero}
use native.Mathlib.Omega.{arith}
use lib.Dec.{eqb}
use lib.ListN.{length, get_or, set}
use borrow.Author.Tests.{eqb-true, eq-eqb, ne_eqb, not-false}
use Rattle.rules.specs.Table.{node_fault}
use Rattle.rules.proofs.Rows.{node_kept}
use Rattle.entries.specs.Entries.{blank_mark}
use Rattle.paths.specs.Words.{fits}
use Rattle.drawn_tree.specs.Reading.{asked}
use Rattle.drawn_tree.specs.Filling.{unasked}

-- what row 20 lets through: a component of the study that has no mark yet
pub record Free (components : ℕ) (marks : List ℕ) (component : ℕ) : Type 0 where
  pub inside : component < components
  pub free : get_or marks component 0 ≡ blank_mark

pub free-kept : (components : ℕ) (marks : List ℕ) (component : ℕ) → node_fault components component (asked marks component) ≡ 0
    → Free components marks component
free-kept components marks component e =
    let kept = node_kept components component (asked marks component) e in
    let mark = get_or marks component 0 in
    record { inside = kept.inside; free = eqb-true mark blank_mark (not-false (eqb mark blank_mark) kept.not_above) }

-- a joint state fits the branch of state s where it fitted above and has that state
pub fits-asked : (x marks : List ℕ) (component s : ℕ) → component < length x → get_or marks component 0 ≡ blank_mark → (s ≡ blank_mark → ⊥)
    → fits x (set marks component s) ≡ fits x marks && eqb s (get_or x component 0)
unfolding fits
fits-asked [] marks component s inside free state = absurd (not-suc-le-zero inside)
fits-asked (a ∷ x) [] component s inside free state = absurd (omega arith)
fits-asked (a ∷ x) (m ∷ marks) zero s inside free state = rw (ne_eqb s blank_mark state, eq-eqb m blank_mark free) (and_comm (eqb s a) (fits x marks))
fits-asked (a ∷ x) (m ∷ marks) (suc component) s inside free state =
    let fit = eqb m blank_mark || eqb m a in
    ap (λ (b : Bool). fit && b) (fits-asked x marks component s (omega arith) free state)
    ∙ sym (and_assoc fit (fits x marks) (eqb s (get_or x component 0)))

-- one component fewer is left to ask
pub unasked-less : (marks : List ℕ) (component s : ℕ) → get_or marks component 0 ≡ blank_mark → (s ≡ blank_mark → ⊥)
    → suc (unasked (set marks component s)) ≡ unasked marks
unfolding unasked
unasked-less [] component s free state = absurd (omega arith)
unasked-less (m ∷ marks) zero s free state = rw (ne_eqb s blank_mark state, eq-eqb m blank_mark free) (omega arith)
unasked-less (m ∷ marks) (suc component) s free state = let less = unasked-less marks component s free state in omega arith

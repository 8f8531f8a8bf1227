-- The first breach among numbered rules: what carries a loop that judges them, and what it means that there is none.
use Prim.Native.Nat.{ℕ, zero, suc, ◌+◌, ◌-◌, ◌<◌, ◌≤◌}
use mathlib.Core.Path.{◌≡◌, refl, sym, ap, subst, ◌∙◌}
use mathlib.Core.Logic.{⊎_elim}
use native.Mathlib.Nat.{sub-zero, eq-or-lt_of_le, le_refl}
use native.Mathlib.Omega.{arith}
use Rattle.lists.specs.Run.{each}
use Rattle.lists.proofs.Turns.{Turns, turns-start, turns_more, turns-done}
use Rattle.rules.specs.Breach.{first, first_of, in_use}
use Rattle.rules.proofs.Kept.{first-kept, first-none, first_some, first_next, used-kept, unused-kept, in-use-none}

-- one more rule is judged
abbrev judging : (ℕ → ℕ) → ℕ → ℕ → ℕ
judging f k breach = first breach (f k)

-- The rules below i of n have been judged, with the first breach among them.
pub record FirstLeft (f : ℕ → ℕ) (n i breach : ℕ) : Type 0 where
  pub turns : Turns (λ (k b : ℕ). first b (f k)) n 0 0 i breach

-- a breach stays through all later rules
breach-stays : (f : ℕ → ℕ) (n i b : ℕ) → (b ≡ 0 → ⊥) → each (judging f) n i b ≡ b
unfolding each
breach-stays f zero i b some = refl
breach-stays f (suc n) i b some = ap (each (judging f) n (i + 1)) (first_some b (f i) some) ∙ breach-stays f n (i + 1) b some

module _ {f : ℕ → ℕ} {n : ℕ} where
  pub first-start : FirstLeft f n 0 0
  first-start = record { turns = turns-start (omega arith) }

  pub first_more : {i breach breach' next : ℕ} → FirstLeft f n i breach → i < n → next ≡ f i → breach' ≡ first breach next → FirstLeft f n (i + 1) breach'
  first_more {i} {breach} l h e e' =
      record {
        turns =
            subst (Turns (λ (k b : ℕ). first b (f k)) n 0 0 (i + 1)) (sym (e' ∙ ap (first breach) e)) (turns_more l.turns h);
      }

  pub first_done : {i breach : ℕ} → FirstLeft f n i breach → n ≤ i → breach ≡ first_of f n 0
  unfolding first_of
  first_done l h = rw sub-zero at (turns-done l.turns h)

  -- none of the rules below i is broken; where the next is kept, none up to it is, and where it is broken, it is the first
  module _ {i next : ℕ} (l : FirstLeft f n i 0) (h : i < n) (e : next ≡ f i) where
    pub none_more : next ≡ 0 → FirstLeft f n (i + 1) 0
    none_more none = first_more l h e (sym (first_next 0 next refl ∙ none))

    pub next-first : (next ≡ 0 → ⊥) → next ≡ first_of f n 0
    unfolding first_of
    next-first some =
        let judged : FirstLeft f n (i + 1) next = first_more l h e (sym (first_next 0 next refl)) in
        sym (breach-stays f (n - (i + 1)) (i + 1) next some) ∙ (rw sub-zero at judged.turns.same)

-- every rule from i on, n of them, is kept
pub record AllKept (f : ℕ → ℕ) (n i : ℕ) : Type 0 where
  pub kept : (k : ℕ) → i ≤ k → k < i + n → f k ≡ 0

-- no breach stays after one, and with none every rule is kept
run-kept : (f : ℕ → ℕ) (n i b : ℕ) → each (judging f) n i b ≡ 0 → (b ≡ 0) × AllKept f n i
unfolding each
run-kept f zero i b e = (e, record { kept = λ k l h. absurd (omega arith) })
run-kept f (suc n) i b e =
    let rest = run-kept f n (i + 1) (first b (f i)) e in
    let both = first-kept b (f i) rest.0 in (
      both.left,
      record {
        kept =
            λ k l h.
            ⊎_elim (λ (same : i ≡ k). subst (λ (j : ℕ). f j ≡ 0) same both.right) (λ (past : i < k). rest.1.kept k (omega arith) (omega arith))
            (eq-or-lt_of_le l);
      },
    )

run_none : (f : ℕ → ℕ) (n i b : ℕ) → b ≡ 0 → AllKept f n i → each (judging f) n i b ≡ 0
unfolding each
run_none f zero i b e all = e
run_none f (suc n) i b e all =
    run_none f n (i + 1) (first b (f i)) (first-none b (f i) e (all.kept i (le_refl i) (omega arith)))
    (record { kept = λ k l h. all.kept k (omega arith) (omega arith) })

-- no breach among them: each is kept
pub first_of-kept : (f : ℕ → ℕ) (n : ℕ) → first_of f n 0 ≡ 0 → (k : ℕ) → k < n → f k ≡ 0
unfolding first_of
first_of-kept f n e k h = (run-kept f n 0 0 e).1.kept k (omega arith) (omega arith)

-- and the other way
pub first_of-none : (f : ℕ → ℕ) (n : ℕ) → ((k : ℕ) → k < n → f k ≡ 0) → first_of f n 0 ≡ 0
unfolding first_of
first_of-none f n all = run_none f n 0 0 refl (record { kept = λ k l h. all k (omega arith) })

-- Of so many places the first `count` keep the rule of a place in use, and the others that of one that no record uses.
pub record PlacesKept (count places : ℕ) (used unused : ℕ → ℕ) : Type 0 where
  pub in_use : (k : ℕ) → k < count → used k ≡ 0
  pub behind : (k : ℕ) → count ≤ k → k < places → unused k ≡ 0

-- no breach among the places, both ways
module _ (count places : ℕ) (used unused : ℕ → ℕ) where
  pub places-kept : count ≤ places → first_of (λ (k : ℕ). in_use count k (used k) (unused k)) places 0 ≡ 0 → PlacesKept count places used unused
  places-kept room e =
      let kept = first_of-kept _ places e in
      record {
        in_use = λ k less. used-kept count k (used k) (unused k) less (kept k (omega arith));
        behind = λ k from less. unused-kept count k (used k) (unused k) from (kept k less);
      }

  pub places-none : PlacesKept count places used unused → first_of (λ (k : ℕ). in_use count k (used k) (unused k)) places 0 ≡ 0
  places-none kept =
      first_of-none _ places
      (λ k less. in-use-none count k (used k) (unused k) (λ below. kept.in_use k below) (λ from. kept.behind k from less))

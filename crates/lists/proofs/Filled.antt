-- Lists that are filled from the front: each place below i keeps its rule, and each place from i on is unused.
use Prim.Native.Nat.{ℕ, ◌+◌, ◌<◌, ◌≤◌}
use mathlib.Core.Path.{◌≡◌, sym, subst, ◌∙◌}
use mathlib.Core.Logic.{⊎_elim}
use mathlib.Core.List.{List}
use native.Mathlib.Nat.{eq-or-lt_of_le}
use native.Mathlib.Omega.{arith}
use lib.ListN.{length, get_or, set, length-set}
use lib.Seq.{get_or-set_same, get_or-set_other}

-- l has `size` places; `Kept k` holds of what stands at each place k below i, and `Unused` of what stands behind; d stands past the end
pub record Filled {A : Type 0} (Kept : ℕ → A → Type 0) (Unused : A → Type 0) (d : A) (size i : ℕ) (l : List A) : Type 0 where
  pub long : length l ≡ size
  pub below : (k : ℕ) → k < i → Kept k (get_or l k d)
  pub behind : (k : ℕ) → i ≤ k → k < size → Unused (get_or l k d)

module _ {A : Type 0} {Kept : ℕ → A → Type 0} {Unused : A → Type 0} {d : A} {size : ℕ} where
  pub filled_none : {l : List A} → length l ≡ size → ((k : ℕ) → k < size → Unused (get_or l k d)) → Filled Kept Unused d size 0 l
  filled_none e none = record { long = e; below = λ k h. absurd (omega arith); behind = λ k l h. none k h }

  -- one more place is filled
  pub filled_more : {i : ℕ} {l : List A} {a : A} → Filled Kept Unused d size i l → i < size → Kept i a → Filled Kept Unused d size (i + 1) (set l i a)
  filled_more {i} {l} {a} f h kept =
      record {
        long = length-set l i a ∙ f.long;
        below =
            λ k less.
            ⊎_elim
            (λ (same : k ≡ i). subst (λ (n : ℕ). Kept n (get_or (set l i a) n d)) (sym same) (subst (Kept i) (sym (get_or-set_same l i a d (omega (arith, f.long)))) kept))
            (λ (lower : k < i). subst (Kept k) (sym (get_or-set_other l i k a d (λ same. omega arith))) (f.below k lower))
            (eq-or-lt_of_le (omega arith));
        behind = λ k from less. subst Unused (sym (get_or-set_other l i k a d (λ same. omega arith))) (f.behind k (omega arith) less);
      }

-- What carries every loop in the library: turning a counted run from where the loop stands gives what the whole run gives.
use Prim.Native.Nat.{ℕ, suc, ◌+◌, ◌-◌, ◌<◌, ◌≤◌}
use mathlib.Core.Path.{◌≡◌, refl, ap, ◌∙◌}
use native.Mathlib.Omega.{arith}
use Rattle.lists.specs.Run.{each}

-- The loop has made the turns from i₀ up to i of a run that ends at n, and holds r.
pub record Turns {A : Type 0} (f : ℕ → A → A) (n i₀ : ℕ) (r₀ : A) (i : ℕ) (r : A) : Type 0 where
  pub inside : i ≤ n
  pub same : each f (n - i) i r ≡ each f (n - i₀) i₀ r₀

module _ {A : Type 0} {f : ℕ → A → A} {n i₀ : ℕ} {r₀ : A} where
  pub turns-start : i₀ ≤ n → Turns f n i₀ r₀ i₀ r₀
  turns-start h = record { inside = h; same = refl }

  pub turns_more : {i : ℕ} {r : A} → Turns f n i₀ r₀ i r → i < n → Turns f n i₀ r₀ (i + 1) (f i r)
  unfolding each
  turns_more {i} {r} t h = record { inside = omega arith; same = ap (λ (k : ℕ). each f k i r) left ∙ t.same }
    where
      left : suc (n - (i + 1)) ≡ n - i
      left = omega arith

  pub turns-done : {i : ℕ} {r : A} → Turns f n i₀ r₀ i r → n ≤ i → r ≡ each f (n - i₀) i₀ r₀
  unfolding each
  turns-done {i} {r} t h = ap (λ (k : ℕ). each f k i r) none ∙ t.same
    where
      none : 0 ≡ n - i
      none = omega arith

-- A counted run: the one form of repetition that the definitions use.
use Rattle.std.specs.Prelude.{ℕ, zero, suc, ◌+◌}

-- n turns of f on r, numbered upwards from i
unfoldable pub each : {A : Type 0} → (ℕ → A → A) → ℕ → ℕ → A → A
each f zero i r = r
each f (suc n) i r = each f n (i + 1) (f i r)

-- What a call answers and what it leaves of a lent slice, by its first breach.
use Rattle.std.specs.Prelude.{ℕ, cond, List, eqb}
use Rattle.lists.specs.Rows.{put}

-- the result where there is no breach, and otherwise what a refusal by it gives
unfoldable pub answered : {A : Type 0} → (ℕ → A) → ℕ → A → A
answered refusal breach result = cond (eqb breach 0) result (refusal breach)

-- a lent slice: new values fill its front, and nothing behind them changes; a breach leaves it all as it was
unfoldable pub filled : ℕ → List ℕ → List ℕ → List ℕ
unfolding answered
filled breach values slice = answered (λ (n : ℕ). slice) breach (put slice 0 values)

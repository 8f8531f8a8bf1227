-- A loop that judges place after place by `?`: an error ends it as the first breach of all, and where every place passes there is none.
use Rattle.std.proofs.Common.{◌≡◌, ℕ, ◌+◌, ◌<◌, ◌≤◌, refl}
use Rattle.rules.specs.Breach.{first_of}
use Rattle.rules.specs.Refusals.{row_of}
use Rattle.rules.specs.declared.refusal.Refusal.{Refusal}
use Rattle.rules.proofs.Firsts.{FirstLeft, none_more, next-first, first_done}
use Rattle.rules.proofs.Judged.{some_row}

module _ {f : ℕ → ℕ} {n i : ℕ} (l : FirstLeft f n i 0) where
  pub place_broken : (r : Refusal) → i < n → row_of r ≡ f i → row_of r ≡ first_of f n 0
  place_broken r inside e = next-first l inside e (some_row r)

  pub place_passed : i < n → 0 ≡ f i → FirstLeft f n (i + 1) 0
  place_passed inside e = none_more l inside e refl

  pub all_passed : n ≤ i → 0 ≡ first_of f n 0
  all_passed end = first_done l end

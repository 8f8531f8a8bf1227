-- A component is blank exactly where the parts of all its states are alike.
use Prim.Native.Nat.{ℕ, ◌<◌}
use mathlib.Core.Path.{◌≡◌, sym, ◌∙◌}
use mathlib.Core.Bool.{true}
use mathlib.Core.List.{List}
use Rattle.lists.specs.Rows.{same}
use Rattle.lists.proofs.Tests.{all-below-true, true-all-below, same_true, true_same}
use Rattle.paths.specs.Paths.{part, is_blank}

module _ (c m : ℕ) (block : List ℕ) where
  pub blank-alike : is_blank c m block ≡ true → (s t : ℕ) → s < c → t < c → part m s block ≡ part m t block
  unfolding is_blank
  blank-alike e s t h less = sym (first s h) ∙ first t less
    where
      first : (k : ℕ) → k < c → part m 0 block ≡ part m k block
      first k lower =
          same_true (part m 0 block) (part m k block) (all-below-true (λ (k : ℕ). same (part m 0 block) (part m k block)) c e k lower)

  pub alike-blank : ((s : ℕ) → s < c → part m 0 block ≡ part m s block) → is_blank c m block ≡ true
  unfolding is_blank
  alike-blank alike =
      true-all-below (λ (k : ℕ). same (part m 0 block) (part m k block)) c (λ k h. rw (sym (alike k h)) (true_same (part m 0 block)))

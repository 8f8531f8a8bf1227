-- Laws of answers and lent slices by a breach: without one the result, with one the refusal; and what an answer tells is the breach, or the values.
use Prim.Native.Nat.{ℕ, ◌<◌, ◌≤◌}
use mathlib.Core.Path.{◌≡◌, refl, sym, ap, ◌∙◌}
use mathlib.Core.Bool.{Bool, true, false, cond}
use mathlib.Core.List.{List}
use native.Mathlib.Omega.{arith}
use lib.Dec.{eqb}
use lib.ListN.{length, get_or, take}
use borrow.Author.Tests.{eq-eqb, ne_eqb, eqb-true}
use Rattle.lists.specs.Rows.{put}
use Rattle.lists.proofs.Fronts.{put-behind, put-taken, get_or-put}
use Rattle.answers.specs.Answered.{answered, filled}
use Rattle.answers.specs.Told.{Told, result, refusal, number_told, tells}

module _ {A : Type 0} (refused : ℕ → A) (breach : ℕ) (done : A) where
  pub answered-done : breach ≡ 0 → answered refused breach done ≡ done
  unfolding answered
  answered-done none = rw (eq-eqb breach 0 none) refl

  pub answered-refused : (breach ≡ 0 → ⊥) → answered refused breach done ≡ refused breach
  unfolding answered
  answered-refused some = rw (ne_eqb breach 0 some) refl

  -- an answer tells what its breach and its values say
  pub answered-tells : (told : A → Told) (values : List ℕ) → ((n : ℕ) → told (refused n) ≡ refusal n) → told done ≡ result values
      → told (answered refused breach done) ≡ tells breach values
  unfolding answered tells
  answered-tells told values is-refused is-done = go (eqb breach 0)
    where
      go : (b : Bool) → told (cond b done (refused breach)) ≡ cond b (result values) (refusal breach)
      go true = is-done
      go false = is-refused breach

module _ (breach : ℕ) (values : List ℕ) where
  pub tells-result : breach ≡ 0 → tells breach values ≡ result values
  unfolding tells
  tells-result = answered-done refusal breach (result values)

  pub tells-refusal : (breach ≡ 0 → ⊥) → tells breach values ≡ refusal breach
  unfolding tells
  tells-refusal = answered-refused refusal breach (result values)

  -- the number that it tells is the breach
  pub tells-number : number_told (tells breach values) ≡ breach
  unfolding tells answered
  tells-number = go (eqb breach 0) refl
    where
      go : (b : Bool) → eqb breach 0 ≡ b → number_told (cond b (result values) (refusal breach)) ≡ breach
      go true none = sym (eqb-true breach 0 none)
      go false some = refl

  -- where a result is told there is no breach
  pub no-breach : {told : Told} (others : List ℕ) → told ≡ tells breach values → told ≡ result others → breach ≡ 0
  no-breach others is done = sym tells-number ∙ ap number_told (sym is ∙ done)

  -- and the values told are its own
  pub values-told : {told : Told} (others : List ℕ) → told ≡ tells breach values → told ≡ result others → values ≡ others
  values-told others is done = cc (tells-result (no-breach others is done))

  -- where a refusal is told there is one
  pub some-breach : {told : Told} (n : ℕ) → told ≡ tells breach values → told ≡ refusal n → breach ≡ 0 → ⊥
  some-breach n is refused none = let z : ◌≡◌ {A = ℕ} 0 1 = cc (tells-result none) in omega arith

  -- and it is the number told
  pub breach-told : {told : Told} (n : ℕ) → told ≡ tells breach values → told ≡ refusal n → breach ≡ n
  breach-told n is refused = sym tells-number ∙ ap number_told (sym is ∙ refused)

module _ (breach : ℕ) (values slice : List ℕ) where
  pub filled-done : breach ≡ 0 → filled breach values slice ≡ put slice 0 values
  unfolding filled
  filled-done = answered-done (λ (n : ℕ). slice) breach (put slice 0 values)

  pub filled-refused : (breach ≡ 0 → ⊥) → filled breach values slice ≡ slice
  unfolding filled
  filled-refused = answered-refused (λ (n : ℕ). slice) breach (put slice 0 values)

  pub filled-taken : breach ≡ 0 → take (length values) (filled breach values slice) ≡ values
  filled-taken none = ap (take (length values)) (filled-done none) ∙ put-taken slice values refl

  pub filled-front : breach ≡ 0 → (k : ℕ) → k < length values → get_or (filled breach values slice) k 0 ≡ get_or values k 0
  filled-front none k h = ap (λ (s : List ℕ). get_or s k 0) (filled-done none) ∙ get_or-put slice values k 0 h

  pub filled-behind : (k : ℕ) → length values ≤ k → get_or (filled breach values slice) k 0 ≡ get_or slice k 0
  unfolding filled answered
  filled-behind k h = go (eqb breach 0)
    where
      go : (b : Bool) → get_or (cond b (put slice 0 values) slice) k 0 ≡ get_or slice k 0
      go true = put-behind slice values k h
      go false = refl

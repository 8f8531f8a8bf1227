-- What carries the evaluation of the gates: the truths of those below i are set.
use Prim.Native.Nat.{ℕ, zero, suc, ◌+◌, ◌<◌, ◌≤◌}
use mathlib.Core.Path.{◌≡◌, refl, ap, ◌∙◌}
use mathlib.Core.Bool.{Bool, false}
use mathlib.Core.List.{List}
use native.Mathlib.Numerals.{add-one}
use native.Mathlib.Omega.{arith}
use lib.ListN.{length, get_or, replicate, set, length-replicate, length-set}
use Rattle.rules.specs.Limits.{most_gates}
use Rattle.study.specs.declared.Gate.{Gate}
use Rattle.study.specs.Places.{no_gate}
use Rattle.fault_tree.specs.Truth.{gate_true, with_truth, gate_truths}

-- they stand at the places of all gates
pub truths-long : (gates : List Gate) (x : List ℕ) (i : ℕ) → length (gate_truths gates x i) ≡ most_gates
unfolding gate_truths with_truth
truths-long gates x zero = length-replicate most_gates false
truths-long gates x (suc i) = length-set (gate_truths gates x i) i _ ∙ truths-long gates x i

pub record Evaluated (gates : List Gate) (x : List ℕ) (n i : ℕ) (truths : List Bool) : Type 0 where
  pub inside : i ≤ n
  pub made : truths ≡ gate_truths gates x i

module _ {gates : List Gate} {x : List ℕ} {n : ℕ} where
  pub evaluated-start : {truths : List Bool} → truths ≡ replicate most_gates false → Evaluated gates x n 0 truths
  unfolding gate_truths
  evaluated-start e = record { inside = omega arith; made = e }

  pub evaluated-more : {i : ℕ} {truths : List Bool} {b : Bool} → Evaluated gates x n i truths → i < n
      → b ≡ gate_true (get_or gates i no_gate) x (λ (k : ℕ). get_or truths k false) → Evaluated gates x n (i + 1) (set truths i b)
  unfolding gate_truths with_truth
  evaluated-more {i} {truths} {b} s h e = record { inside = omega arith; made = rw (add-one, e, s.made) refl }

  pub evaluated-long : {i : ℕ} {truths : List Bool} → Evaluated gates x n i truths → length truths ≡ most_gates
  evaluated-long {i} {truths} s = ap length s.made ∙ truths-long gates x i

  pub evaluated-done : {i : ℕ} {truths : List Bool} → Evaluated gates x n i truths → n ≤ i → truths ≡ gate_truths gates x n
  evaluated-done {i} {truths} s h =
      let all : i ≡ n = omega (arith, s.inside) in
      s.made ∙ ap (gate_truths gates x) all

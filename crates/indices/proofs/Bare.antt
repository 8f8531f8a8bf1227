-- The figures go by the customers and minutes of loads alone: they are the same where the loss gates are taken from them.
use Prim.Native.Nat.{ℕ, zero, suc}
use mathlib.Core.Path.{◌≡◌, refl, ap, ◌∙◌}
use mathlib.Core.Bool.{Bool}
use mathlib.Core.List.{List, [], ◌∷◌, map}
use native.Mathlib.Omega.{arith}
use lib.ListN.{length, get_or, drop, length-map}
use Rattle.lists.specs.Counting.{sum}
use Rattle.lists.proofs.SumBelow.{sum_alike}
use Rattle.study.specs.declared.Load.{Load}
use Rattle.study.specs.Zero.{zero_load}
use Rattle.indices.specs.Figures.{customers_served, customers_lost, minutes_lost, loads_sum, customers_sum, loss_sum, minutes_sum, figures_of}
use Rattle.indices.specs.Parts.{short, sustained, every}

-- a load without its loss gate
abbrev pub bare : Load → Load
bare l = record { gate = 0; customers = l.customers; minutes = l.minutes }

-- loads with the same customers and minutes are then the same
pub bare-same : (l k : List Load) → map (λ (x : Load). x.customers) l ≡ map (λ (x : Load). x.customers) k
    → map (λ (x : Load). x.minutes) l ≡ map (λ (x : Load). x.minutes) k → map bare l ≡ map bare k
bare-same [] [] c m = refl
bare-same [] (y ∷ k) c m = absurd (let none : ◌≡◌ {A = ℕ} 0 (length (map (λ (x : Load). x.customers) (y ∷ k))) = ap length c in omega (arith, none))
bare-same (x ∷ l) [] c m = absurd (omega (arith, ap length c))
bare-same (x ∷ l) (y ∷ k) c m =
    let customers : x.customers ≡ y.customers = ap (λ (r : List ℕ). get_or r 0 0) c in
    let minutes : x.minutes ≡ y.minutes = ap (λ (r : List ℕ). get_or r 0 0) m in
    let rest = bare-same l k (ap (λ (r : List ℕ). drop 1 r) c) (ap (λ (r : List ℕ). drop 1 r) m) in
    λ i. record { gate = 0; customers = customers i; minutes = minutes i } ∷ rest i

at_bare : (l : List Load) (j : ℕ) → get_or (map bare l) j zero_load ≡ bare (get_or l j zero_load)
at_bare [] j = refl
at_bare (x ∷ l) zero = refl
at_bare (x ∷ l) (suc j) = at_bare l j

-- ---- the sums over loads

sum-bare : (takes_part : Load → Bool) (value : ℕ → Load → ℕ) → ((x : Load) → takes_part (bare x) ≡ takes_part x)
    → ((j : ℕ) (x : Load) → value j (bare x) ≡ value j x) → (l : List Load) → loads_sum takes_part value (map bare l) ≡ loads_sum takes_part value l
unfolding loads_sum
sum-bare takes_part value part same l =
    ap (sum _) (length-map l bare)
    ∙ sum_alike _ _ (length l) (λ j h. rw (at_bare l j, part (get_or l j zero_load), same j (get_or l j zero_load)) refl)

pub customers-bare : (l : List Load) → customers_sum (map bare l) ≡ customers_sum l
unfolding customers_sum
customers-bare l = sum-bare every customers_served (λ x. refl) (λ j x. refl) l

module _ (takes_part : Load → Bool) (part : (x : Load) → takes_part (bare x) ≡ takes_part x) (p : ℕ → ℕ) (l : List Load) where
  loss-bare : loss_sum takes_part p (map bare l) ≡ loss_sum takes_part p l
  unfolding loss_sum
  loss-bare = sum-bare takes_part (customers_lost p) part (λ j x. refl) l

  minutes-bare : minutes_sum takes_part p (map bare l) ≡ minutes_sum takes_part p l
  unfolding minutes_sum
  minutes-bare = sum-bare takes_part (minutes_lost p) part (λ j x. refl) l

-- ---- and so the figures

short-bare : (x : Load) → short (bare x) ≡ short x
unfolding short
short-bare x = refl

sustained-bare : (x : Load) → sustained (bare x) ≡ sustained x
unfolding sustained short
sustained-bare x = refl

pub figures-bare : (customers : ℕ) (lower upper : List ℕ) (l : List Load) → figures_of customers lower upper (map bare l) ≡ figures_of customers lower upper l
unfolding figures_of
figures-bare customers lower upper l =
    let low : ℕ → ℕ = λ j. get_or lower j 0 in
    let high : ℕ → ℕ = λ j. get_or upper j 0 in
    rw (
      loss-bare sustained sustained-bare low l,
      loss-bare sustained sustained-bare high l,
      minutes-bare sustained sustained-bare low l,
      minutes-bare sustained sustained-bare high l,
      loss-bare short short-bare low l,
      loss-bare short short-bare high l,
    )
    refl

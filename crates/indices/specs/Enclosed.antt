-- What it means that the figures enclose the quotients of the published formulas. The exact probability that load j is lost is x j / w, so that a sum
-- of x is the exact sum times w.
use Rattle.std.specs.Prelude.{ℕ, ◌*◌, ◌<◌, ◌≤◌, ◌≡◌, Bool, List}
use Rattle.units.specs.One.{one}
use Rattle.study.specs.declared.Load.{Load}
use Rattle.units.specs.declared.bounds.Enclosure.{Enclosure}
use Rattle.answers.specs.declared.figures.Caidi.{Caidi}
use Rattle.answers.specs.declared.figures.Caidi.TheVariants.{Bounds}
use Rattle.indices.specs.Figures.{loss_sum, minutes_sum, bound_of}

-- the quotient a / b has a divisor, and lies between two bounds, written without division
pub record Encloses (bounds : Enclosure) (a b : ℕ) : Type 0 where
  pub divisor : 0 < b
  pub below : bounds.lower * b ≤ a
  pub above : a ≤ bounds.upper * b

-- the bounds for the loss of each of the first n loads enclose its exact probability, in units
pub record LossesEnclosed (lower upper : List ℕ) (x : ℕ → ℕ) (w n : ℕ) : Type 0 where
  pub whole : 0 < w
  pub below : (j : ℕ) → j < n → bound_of lower j * w ≤ one * x j
  pub above : (j : ℕ) → j < n → one * x j ≤ bound_of upper j * w

-- two bounds, in billionths, enclose a sum over P for each of the customers served
abbrev pub EnclosesPerCustomer : Enclosure → ℕ → ((ℕ → ℕ) → List Load → ℕ) → (ℕ → ℕ) → ℕ → List Load → Type 0
EnclosesPerCustomer bounds customers sum_of x w loads = Encloses bounds (one * sum_of x loads) (w * customers)

-- two bounds in whole minutes, where they are stated, enclose the minutes for each customer interrupted, over the loads that take part
abbrev pub EnclosesPerInterruption : Caidi → (Load → Bool) → (ℕ → ℕ) → List Load → Type 0
EnclosesPerInterruption figure takes_part x loads =
    (bounds : Enclosure) → figure ≡ Bounds bounds → Encloses bounds (minutes_sum takes_part x loads) (loss_sum takes_part x loads)

-- Totals in lent places: one place for each class, or one for each load.
use Rattle.std.specs.Prelude.{ℕ, ◌+◌, ◌*◌, ◌<◌, ◌≤◌, min, ◌≡◌, Bool, true, false, List, eqb, length, get_or}
use Rattle.lists.specs.Bits.{bit}
use Rattle.units.specs.One.{one}
use Rattle.rules.specs.Limits.{most_loads, most_joint_states}
use Rattle.entries.specs.Entries.{class_places}

-- how many places there are, by class or by load
abbrev pub places_of : Bool → ℕ
places_of false = class_places
places_of true = most_loads

-- whether a path of a class counts at a place: at that of its class, or at that of each load whose bit its class has
abbrev pub counts_at : Bool → ℕ → ℕ → Bool
counts_at false place class = eqb class place
counts_at true place class = bit class place

-- what the sums of lower bounds are at most, and so no limit to them: one for each of 4,096 paths
abbrev pub sums_most : ℕ
sums_most = most_joint_states * one

-- the places hold totals, none above so much
pub record Totals (most places : ℕ) (totals : List ℕ) : Type 0 where
  pub room : places ≤ length totals
  pub each : (p : ℕ) → p < places → get_or totals p 0 ≤ most

-- d' has these values at its first places, and the rest of d as it was
pub record Placed (places : ℕ) (value : ℕ → ℕ) (d d' : List ℕ) : Type 0 where
  pub size : length d' ≡ length d
  pub here : (p : ℕ) → p < places → get_or d' p 0 ≡ value p
  pub behind : (k : ℕ) → places ≤ k → get_or d' k 0 ≡ get_or d k 0

-- nothing is left at the first places
abbrev pub Cleared : ℕ → List ℕ → List ℕ → Type 0
Cleared places d d' = Placed places (λ p. 0) d d'

-- each of the first places has more, though no more than so much
pub record Adds (most places : ℕ) (more : ℕ → ℕ) (d d' : List ℕ) : Type 0 where
  pub sums : Placed places (λ (p : ℕ). min most (get_or d p 0 + more p)) d d'

-- Two loads of a study that share a component: they are lost together far more often than the product of their
-- probabilities says.
use Rattle.std.specs.Prelude.{ℕ, ◌*◌, ◌≡◌, ◌&&◌, List, [], ◌∷◌}
use Rattle.lists.specs.Bits.{bit}
use Rattle.answers.specs.Told.{result}
use Rattle.opening.specs.Laws.{IsOpened}
use Rattle.opening.specs.Opening.{opened}
use Rattle.model.specs.Model.{Model}
use Rattle.accuracy.specs.Accuracy.{exact_of, whole_of}
use Rattle.meaning.specs.Meaning.{by_gates, model_of}
use Rattle.demands.specs.Calls.{load_bounds, call_told}
use Rattle.demands.specs.Within.{exact_lost}

-- three components that fail at 0.1. The first two feed load 0 in series, the last two feed load 1, so that the
-- second stands in both; load 2 is lost when both of these are.
abbrev pub sharing : List ℕ
sharing =
    3 ∷ 3 ∷ 3
    ∷ 2 ∷ 0x00 ∷ 0xE1 ∷ 0xF5 ∷ 0x05
    ∷ 2 ∷ 0x00 ∷ 0xE1 ∷ 0xF5 ∷ 0x05
    ∷ 2 ∷ 0x00 ∷ 0xE1 ∷ 0xF5 ∷ 0x05
    ∷ 2 ∷ 2 ∷ 0 ∷ 2 ∷ 1 ∷ 2
    ∷ 2 ∷ 2 ∷ 1 ∷ 2 ∷ 2 ∷ 2
    ∷ 5 ∷ 2 ∷ 2 ∷ 0 ∷ 1
    ∷ 1 ∷ 0
    ∷ 1 ∷ 1
    ∷ 1 ∷ 2
    ∷ []

abbrev pub sharing_model : Model
sharing_model = model_of by_gates (opened sharing).study

-- the exact probability that loads 0 and 1 are both lost
abbrev pub both_lost : ℕ
both_lost = exact_of sharing_model (λ (x : List ℕ). bit (sharing_model.class x) 0 && bit (sharing_model.class x) 1)

pub record SharedComponent : Type 0 where
  -- the study opens, and so is sound
  pub opens : IsOpened sharing
  -- each load is lost at 0.19, and both at 0.109
  pub first : exact_lost sharing_model 0 * 100 ≡ whole_of sharing_model * 19
  pub second : exact_lost sharing_model 1 * 100 ≡ whole_of sharing_model * 19
  pub both : both_lost * 1000 ≡ whole_of sharing_model * 109
  -- which is not 0.19 times 0.19
  pub no_product : both_lost * whole_of sharing_model ≡ exact_lost sharing_model 0 * exact_lost sharing_model 1 → ⊥
  -- it is what the call for load 2 tells
  pub told : call_told (load_bounds by_gates 2) (opened sharing).study ≡ result (109_000_000 ∷ 109_000_000 ∷ [])

-- A gate whose inputs stand in lent places, and are put in order there. Only the code needs these.
use Rattle.std.specs.Prelude.{ℕ, ◌≡◌, List}
use Rattle.study.specs.declared.Gate.{Gate}
use Rattle.gate_order.specs.Inputs.{input_count}
use Rattle.gate_order.specs.Order.{in_order}

-- a gate of these fields
abbrev pub gate_of : (threshold tests : ℕ) (component mask : List ℕ) (gates : ℕ) (input : List ℕ) → Gate
gate_of threshold tests component mask gates input =
    record { threshold = threshold; tests = tests; component = component; mask = mask; gates = gates; input = input }

-- g is put in order, as h, and has so many distinct inputs
pub record PutInOrder (g h : Gate) (distinct : ℕ) : Type 0 where
  pub sorted : h ≡ in_order g
  pub many : distinct ≡ input_count g

-- What the code reads a gate into: its places, put in order at the end. Only the code needs this.
use Rattle.std.specs.Prelude.{ℕ, List}
use Rattle.reading.specs.Reader.{Reader, return, ◌>>=◌}
use Rattle.study.specs.declared.Gate.{Gate}
use Rattle.gate_order.specs.Order.{in_order}
use Rattle.gate_record.specs.Gate.{gate}

-- the same gate with its inputs in order
unfoldable pub gate_in_order : List ℕ → ℕ → Reader Gate
unfolding in_order
gate_in_order counts number = do
  g ← gate counts number
  return (in_order g)

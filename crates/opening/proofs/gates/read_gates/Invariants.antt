-- `opening::gates::read_gates` meets its contract: each turn puts one record in its place.
use Rattle.reading.specs.Reader.{got}
use Rattle.reading.proofs.Repeats.{RepeatLeft}
use Rattle.opening.specs.Opening.{placing}
use Rattle.opening.specs.Places.{gate_record_in_order}
use Rattle.opening.proofs.gates.read_gates.Given as goal

abbrev pub invariant-loop-i : goal.invariant-loop-i
invariant-loop-i l =
    RepeatLeft (placing (gate_record_in_order l.counts)) l.n l.initial.gate l.initial.bytes.rest.now (got l.gate l.bytes.rest.now) l.i

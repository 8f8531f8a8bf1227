-- `gate_record::inputs::read_inputs` meets its contract: each turn reads one gate input into its place.
use Rattle.reading.specs.Reader.{got}
use Rattle.reading.proofs.Repeats.{RepeatLeft}
use Rattle.gate_record.specs.Gate.{input as gate_input}
use Rattle.gate_record.proofs.inputs.read_inputs.Given as goal

abbrev pub invariant-loop-j : goal.invariant-loop-j
invariant-loop-j l = RepeatLeft (gate_input l.number) l.n l.initial.g l.initial.bytes.rest.now (got l.g l.bytes.rest.now) l.j

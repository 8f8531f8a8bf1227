-- `opening::gates::read_gates` meets its contract: the turns read what the definition repeats, up to the first that is refused.
use Rattle.std.proofs.Common.{◌≡◌, ◌<◌, arith, rules}
use Rattle.rules.specs.Refusals.{row_of}
use Rattle.reading.specs.Reader.{refused, repeat}
use Rattle.reading.proofs.Repeats.{repeat-done}
use Rattle.opening.specs.Opening.{placing}
use Rattle.opening.specs.Places.{gate_record_in_order}
use Rattle.opening.proofs.Places.{placed, place-refused}
use Rattle.opening.proofs.gates.read_gates.Goals as goal

pub returns-in_err-read_gate : goal.returns-in_err-read_gate
returns-in_err-read_gate c =
    let inside : c.loop-i.i < c.args.n = omega arith in
    let reader = gate_record_in_order c.args.counts.now in
    let whole : refused (row_of c.in_err-read_gate.field-0.0) ≡ repeat (placing reader) c.args.n c.args.gate.now c.args.bytes.now.rest.now
    = place-refused reader c.loop-i.invariant inside c.in_err-read_gate.ensures in
    search rules

pub loop-i-preserved : goal.loop-i-preserved
loop-i-preserved c = placed (gate_record_in_order c.args.counts.now) c.loop-i.invariant (omega arith) c.in_ok-read_gate.ensures

pub returns : goal.returns
returns c = repeat-done c.loop-i.invariant (omega arith)

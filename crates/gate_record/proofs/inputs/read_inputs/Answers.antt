-- `gate_record::inputs::read_inputs` meets its contract: behind the count, the turns read what the definition repeats, up to the first that is refused.
use Rattle.std.proofs.Common.{◌≡◌, ◌<◌, arith, rules}
use Rattle.rules.specs.Limits.{most_gate_inputs}
use Rattle.rules.specs.Refusals.{row_of}
use Rattle.reading.specs.Reader.{refused, got}
use Rattle.reading.proofs.Repeats.{repeat-more, repeat-done, repeat-stopped}
use Rattle.gate_record.specs.Gate.{inputs_byte, inputs}
use Rattle.gate_record.proofs.inputs.read_inputs.Goals as goal

pub returns-in_err-read_input : goal.returns-in_err-read_input
unfolding inputs
returns-in_err-read_input c =
    let count : got c.in_ok-n.n c.read_input_count.new.bytes.rest.now ≡ inputs_byte most_gate_inputs c.args.bytes.now.rest.now = c.in_ok-n.ensures.reads in
    let inside : c.loop-j.j < c.in_ok-n.n = omega arith in
    let whole : refused (row_of c.in_err-read_input.field-0.0) ≡ inputs c.args.number c.args.g.now c.args.bytes.now.rest.now
    = rw (← count) (repeat-stopped (repeat-more c.loop-j.invariant inside c.in_err-read_input.ensures)) in
    search rules

pub loop-j-preserved : goal.loop-j-preserved
loop-j-preserved c = repeat-more c.loop-j.invariant (omega arith) c.in_ok-read_input.ensures

pub returns : goal.returns
unfolding inputs
returns c = rw (← c.in_ok-n.ensures.reads) (repeat-done c.loop-j.invariant (omega arith))

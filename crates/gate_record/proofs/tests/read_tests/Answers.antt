-- `gate_record::tests::read_tests` meets its contract: behind the count, the turns read what the definition repeats, up to the first that is refused.
use Rattle.std.proofs.Common.{◌≡◌, ◌<◌, arith, rules}
use Rattle.rules.specs.Limits.{most_tests}
use Rattle.rules.specs.Refusals.{row_of}
use Rattle.reading.specs.Reader.{refused, got}
use Rattle.reading.proofs.Repeats.{repeat-more, repeat-done, repeat-stopped}
use Rattle.gate_record.specs.Gate.{inputs_byte, tests}
use Rattle.gate_record.proofs.tests.read_tests.Goals as goal

pub returns-in_err-read_test : goal.returns-in_err-read_test
unfolding tests
returns-in_err-read_test c =
    let count : got c.in_ok-n.n c.read_input_count.new.bytes.rest.now ≡ inputs_byte most_tests c.args.bytes.now.rest.now = c.in_ok-n.ensures.reads in
    let inside : c.loop-j.j < c.in_ok-n.n = omega arith in
    let whole : refused (row_of c.in_err-read_test.field-0.0) ≡ tests c.args.counts.now c.args.g.now c.args.bytes.now.rest.now
    = rw (← count) (repeat-stopped (repeat-more c.loop-j.invariant inside c.in_err-read_test.ensures)) in
    search rules

pub loop-j-preserved : goal.loop-j-preserved
loop-j-preserved c = repeat-more c.loop-j.invariant (omega arith) c.in_ok-read_test.ensures

pub returns : goal.returns
unfolding tests
returns c = rw (← c.in_ok-n.ensures.reads) (repeat-done c.loop-j.invariant (omega arith))

-- `opening::loads::read_loads` meets its contract: the turns read what the definition repeats, up to the first that is refused.
use Rattle.std.proofs.Common.{◌≡◌, ◌<◌, arith, rules}
use Rattle.rules.specs.Refusals.{row_of}
use Rattle.reading.specs.Reader.{refused, repeat}
use Rattle.reading.proofs.Repeats.{repeat-done}
use Rattle.opening.specs.Opening.{load_record, placing}
use Rattle.opening.proofs.Places.{placed, place-refused}
use Rattle.opening.proofs.loads.read_loads.Goals as goal

pub returns-in_err-load : goal.returns-in_err-load
returns-in_err-load c =
    let inside : c.loop-j.j < c.args.n = omega arith in
    let reader = load_record c.args.gates in
    let whole : refused (row_of c.in_err-load.field-0.0) ≡ repeat (placing reader) c.args.n c.args.load.now c.args.bytes.now.rest.now
    = place-refused reader c.loop-j.invariant inside c.in_err-load.ensures in
    search rules

pub loop-j-preserved : goal.loop-j-preserved
loop-j-preserved c = placed (load_record c.args.gates) c.loop-j.invariant (omega arith) c.in_ok-load.ensures

pub returns : goal.returns
returns c = repeat-done c.loop-j.invariant (omega arith)

-- `opening::loads::read_loads` meets its contract: each turn puts one record in its place.
use Rattle.reading.specs.Reader.{got}
use Rattle.reading.proofs.Repeats.{RepeatLeft}
use Rattle.opening.specs.Opening.{load_record, placing}
use Rattle.opening.proofs.loads.read_loads.Given as goal

abbrev pub invariant-loop-j : goal.invariant-loop-j
invariant-loop-j l =
    RepeatLeft (placing (load_record l.gates)) l.n l.initial.load l.initial.bytes.rest.now (got l.load l.bytes.rest.now) l.j

-- `gate_record::tests::read_tests` meets its contract: each turn reads one test into its place.
use Rattle.reading.specs.Reader.{got}
use Rattle.reading.proofs.Repeats.{RepeatLeft}
use Rattle.gate_record.specs.Gate.{test}
use Rattle.gate_record.proofs.tests.read_tests.Given as goal

abbrev pub invariant-loop-j : goal.invariant-loop-j
invariant-loop-j l = RepeatLeft (test l.counts) l.n l.initial.g l.initial.bytes.rest.now (got l.g l.bytes.rest.now) l.j

-- `writing::inputs::write_tests` meets its contract: the tests below j are written (`Tabled`).
use Rattle.text.proofs.Written.{Tabled}
use Rattle.study_bytes.specs.Written.{test_bytes}
use Rattle.writing.proofs.inputs.write_tests.Given as goal

abbrev pub invariant-loop-j : goal.invariant-loop-j
invariant-loop-j l =
    Tabled (test_bytes l.g) l.g.tests l.initial.out l.j l.out

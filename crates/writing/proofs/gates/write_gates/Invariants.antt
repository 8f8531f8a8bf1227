-- `writing::gates::write_gates` meets its contract: the records of the gates gone by are written (`Tabled`).
use Rattle.std.proofs.Common.{ℕ}
use Rattle.study.specs.Places.{gate_at}
use Rattle.text.proofs.Written.{Tabled}
use Rattle.study_bytes.specs.Written.{gate_bytes}
use Rattle.writing.proofs.gates.write_gates.Given as goal

abbrev pub invariant-loop-g : goal.invariant-loop-g
invariant-loop-g l =
    Tabled (λ (i : ℕ). gate_bytes (gate_at l.t i)) l.t.gates l.initial.out l.g-index l.out

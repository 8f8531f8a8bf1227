-- `writing::loads::write_loads` meets its contract: the records of the loads gone by are written (`Tabled`).
use Rattle.std.proofs.Common.{ℕ}
use Rattle.study.specs.Places.{load_at}
use Rattle.text.proofs.Written.{Tabled}
use Rattle.study_bytes.specs.Written.{load_bytes}
use Rattle.writing.proofs.loads.write_loads.Given as goal

abbrev pub invariant-loop-l : goal.invariant-loop-l
invariant-loop-l l =
    Tabled (λ (i : ℕ). load_bytes (load_at l.t i)) l.t.loads l.initial.out l.l-index l.out

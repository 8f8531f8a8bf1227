-- `writing::components::write_components` meets its contract: the records of the components gone by are written (`Tabled`).
use Rattle.std.proofs.Common.{ℕ}
use Rattle.study.specs.Places.{component_at}
use Rattle.text.proofs.Written.{Tabled}
use Rattle.study_bytes.specs.Written.{component_bytes}
use Rattle.writing.proofs.components.write_components.Given as goal

abbrev pub invariant-loop-c : goal.invariant-loop-c
invariant-loop-c l =
    Tabled (λ (i : ℕ). component_bytes (component_at l.t i)) l.t.components l.initial.out l.c-index l.out

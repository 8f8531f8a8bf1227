-- `event_tree::count::count_paths` meets its contract. The components left fall at each call; the paths of the ways
-- below s are counted (`Counted`).
use Rattle.std.proofs.Common.{◌+◌, arith, refl, ap, ◌∙◌, length}
use Rattle.paths.specs.Paths.{paths}
use Rattle.event_tree.proofs.Forked.{no-fork}
use Rattle.event_tree.proofs.Counted.{Counted, counted_start, counted-more, counted-most, counted-done}
use Rattle.event_tree.proofs.count.+count_paths.Goals as goal

pub returns-in_default : goal.returns-in_default
returns-in_default t c = rw (no-fork _ _ c.in_default.ensures.none) refl

pub loop-s-init : goal.loop-s-init
loop-s-init t c = counted_start

pub loop-s-preserved : goal.loop-s-preserved
loop-s-preserved t c =
    counted-more c.loop-s.invariant (omega arith)
    (rw (← c.part.ensures.counts, ← c.part.ensures.classes) c.count_paths-paths.ensures)

pub overflow_add-paths : goal.overflow_add-paths
overflow_add-paths t c =
    let more : Counted c.in-Some.fork (c.loop-s.s + 1) (c.loop-s.paths + c.count_paths-paths.result.paths)
    = counted-more c.loop-s.invariant (omega arith)
    (rw (← c.part.ensures.counts, ← c.part.ensures.classes) c.count_paths-paths.ensures) in
    record {
      fits = omega (
        arith,
        counted-most more,
        c.requires,
        ap
            (λ b. length b.classes.now) c.in-Some.ensures.some,
      );
    }

pub returns : goal.returns
returns t c =
    counted-done c.loop-s.invariant (omega arith)
    ∙ ap (λ b. length (paths b.counts.now b.classes.now)) c.in-Some.ensures.some

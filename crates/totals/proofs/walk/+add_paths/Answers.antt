-- `totals::walk::add_paths` meets its contract. The components left fall at each call; for each of the two bounds the
-- paths of the ways below s are added (`Walked`).
use Rattle.std.proofs.Common.{◌<◌, arith}
use Rattle.event_tree.specs.Ways.{number_in}
use Rattle.totals.proofs.Walked.{leaf-brings, walked_start, walked_more, walked-done}
use Rattle.totals.proofs.walk.+add_paths.Goals as goal

pub returns-in_default-clause-adds : goal.returns-in_default-clause-adds
returns-in_default-clause-adds g t c =
    leaf-brings _ _ _ _ _ _ _ c.in_default.ensures.none c.class-class.ensures c.add_bound.ensures

pub returns-in_default-clause-adds_2 : goal.returns-in_default-clause-adds_2
returns-in_default-clause-adds_2 g t c =
    leaf-brings _ _ _ _ _ _ _ c.in_default.ensures.none c.class-class.ensures c.add_bound-in_default.ensures

pub loop-s-init : goal.loop-s-init
loop-s-init g t c =
    (walked_start c.requires.totals, walked_start c.requires.totals_2)

pub loop-s-preserved : goal.loop-s-preserved
loop-s-preserved g t c =
    let inside : c.loop-s.s < number_in c.in-Some.fork.ways = omega arith in
    let added = rw (c.part.ensures.counts, c.part.ensures.classes) at c.add_paths.ensures in (
      walked_more c.loop-s.invariant.0 inside c.mark-own.ensures c.factored.ensures.value added.adds,
      walked_more c.loop-s.invariant.1 inside c.mark-own.ensures c.factored-in-loop-s.ensures.value added.adds_2,
    )

pub returns-clause-adds : goal.returns-clause-adds
returns-clause-adds g t c =
    walked-done c.in-Some.ensures.some c.loop-s.invariant.0 (omega arith)

pub returns-clause-adds_2 : goal.returns-clause-adds_2
returns-clause-adds_2 g t c =
    walked-done c.in-Some.ensures.some c.loop-s.invariant.1 (omega arith)

-- `event_tree::list::list_block` meets its contract. The components left fall at each call; the paths of the ways below
-- s are written, and the marks in front stand as they were (`Listed`).
use Rattle.std.proofs.Common.{◌+◌, ◌<◌, ◌≡◌, refl, ap, ◌∙◌, arith, length, take}
use lib.ListN.{length-set}
use Rattle.lists.proofs.Puts.{due-done, due-end}
use Rattle.event_tree.specs.Ways.{number_in}
use Rattle.event_tree.proofs.Forked.{fork-fewer}
use Rattle.event_tree.proofs.Listed.{listed_start, listed-way, listed-room, listed_more, listed-all, leaf_room}
use Rattle.event_tree.proofs.Listed.{leaf-done}
use Rattle.event_tree.proofs.list.+list_block.Goals as goal

pub write_entry-requires : goal.write_entry-requires
write_entry-requires t c =
    rw c.class.ensures (leaf_room _ _ (take c.args.front c.args.marks.now) c.in_default.ensures.none
    c.requires.block_in_bounds)

pub returns-in_default-clause-value : goal.returns-in_default-clause-value
returns-in_default-clause-value t c =
    due-end (leaf-done _ _ (take c.args.front c.args.marks.now) c.in_default.ensures.none c.requires.block_in_bounds
    (rw c.class.ensures at c.write_entry.ensures))

pub returns-in_default-clause-out_after : goal.returns-in_default-clause-out_after
returns-in_default-clause-out_after t c =
    due-done (leaf-done _ _ (take c.args.front c.args.marks.now) c.in_default.ensures.none c.requires.block_in_bounds
    (rw c.class.ensures at c.write_entry.ensures))

pub loop-s-init : goal.loop-s-init
loop-s-init t c =
    listed_start c.in-Some.ensures.some c.requires.counts_in_bounds refl refl c.requires.block_in_bounds

pub list_block-place-requires : goal.list_block-place-requires
list_block-place-requires t c =
    let f = c.in-Some.fork in
    let fewer : length c.part.result.counts.now + 1 ≡ length f.block.counts.now = fork-fewer f c.part.ensures.counts in
    let whole = ap (λ b. length b.counts.now) c.in-Some.ensures.some in
    let inside : c.loop-s.s < number_in c.in-Some.fork.ways = omega arith in
    let marked = listed-way c.loop-s.invariant c.mark.ensures in (
      omega (arith, fewer, whole, c.decreases),
      (
        omega (
          arith,
          fewer,
          c.loop-s.invariant.inside,
          length-set c.loop-s.marks c.args.front c.mark.result,
          c.loop-s.invariant.marked.long,
        ),
        rw (marked, c.part.ensures.counts, c.part.ensures.classes) (listed-room c.loop-s.invariant inside),
      ),
    )

pub loop-s-preserved : goal.loop-s-preserved
loop-s-preserved t c =
    let inside : c.loop-s.s < number_in c.in-Some.fork.ways = omega arith in
    let marked = listed-way c.loop-s.invariant c.mark.ensures in
    let long = c.list_block-place.auto.marks ∙ length-set c.loop-s.marks c.args.front c.mark.result
    ∙ c.loop-s.invariant.marked.long in
    listed_more c.loop-s.invariant inside (c.list_block-place.ensures.marks_unchanged ∙ marked) long
    (rw (marked, c.part.ensures.counts, c.part.ensures.classes) at c.list_block-place.ensures.value)
    (rw (marked, c.part.ensures.counts, c.part.ensures.classes) at c.list_block-place.ensures.out_after)

pub returns-clause-value : goal.returns-clause-value
returns-clause-value t c =
    due-end (listed-all c.in-Some.ensures.some c.loop-s.invariant (omega arith))

pub returns-clause-out_after : goal.returns-clause-out_after
returns-clause-out_after t c =
    due-done (listed-all c.in-Some.ensures.some c.loop-s.invariant (omega arith))

-- `event_tree::block::ClassBlock::fork` meets its contract: each state has the same share of the block.
use Rattle.std.proofs.Common.{◌<◌, ◌≡◌, sym, length, get_or}
use Rattle.std.proofs.lemmas.Option.{slice_get_within, get_or_from_slice_get}
use Rattle.paths.proofs.Sizes.{whole_parts}
use Rattle.event_tree.proofs.Forked.{ways-at}
use Rattle.event_tree.proofs.block.ClassBlock.fork.Goals as goal

pub ways_of-requires-clause-block_len : goal.ways_of-requires-clause-block_len
ways_of-requires-clause-block_len c =
    let counts = c.args.self.counts.now in
    let some : 0 < length counts = slice_get_within counts 0 _ (sym c.in_ok-states.ensures.value) in
    let first : get_or counts 0 0 ≡ c.in_ok-states.field-0.now = get_or_from_slice_get counts 0 _ 0
    (sym c.in_ok-states.ensures.value) in
    rw (← first) (whole_parts _ _ c.args.self.whole some)

pub invariant_of-result : goal.invariant_of-result
invariant_of-result c =
    let counts = c.args.self.counts.now in
    let some : 0 < length counts = slice_get_within counts 0 _ (sym c.in_ok-states.ensures.value) in
    let first : get_or counts 0 0 ≡ c.in_ok-states.field-0.now = get_or_from_slice_get counts 0 _ 0
    (sym c.in_ok-states.ensures.value) in
    record {
      some = some;
      at = rw (← first) (ways-at _ _ c.ways_of.result c.args.self.whole some
          (rw first c.ways_of.ensures));
    }

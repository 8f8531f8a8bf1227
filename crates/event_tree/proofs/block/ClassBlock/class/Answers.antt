-- `event_tree::block::ClassBlock::class` meets its contract: a block has a class at least.
use Rattle.event_tree.proofs.Forked.{block_some}
use Rattle.event_tree.proofs.block.ClassBlock.class.Goals as goal

pub bounds-self-0 : goal.bounds-self-0
bounds-self-0 c = block_some _ _ c.args.self.whole

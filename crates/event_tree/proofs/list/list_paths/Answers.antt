-- `event_tree::list::list_paths` meets its contract: no marks stand in front of the whole table.
use mathlib.Core.Path.{ap}
use native.Mathlib.Omega.{arith}
use lib.ListN.{length}
use Rattle.paths.specs.Paths.{paths}
use Rattle.event_tree.proofs.Behind.{unmarked}
use Rattle.event_tree.proofs.list.list_paths.Goals as goal

pub list_block-requires : goal.list_block-requires
list_block-requires c =
    let long = ap length (unmarked (paths c.args.block.counts.now c.args.block.classes.now)) in record {
      counts_in_bounds = omega (arith, c.no_marks-marks.ensures, c.requires.counts_len_bound);
      block_in_bounds =
          omega (arith, long, c.requires.block_in_bounds);
    }

pub returns : goal.returns
returns c =
    let args = c.args in
    rw (unmarked (paths args.block.counts.now args.block.classes.now)) at c.list_block.ensures.out_after

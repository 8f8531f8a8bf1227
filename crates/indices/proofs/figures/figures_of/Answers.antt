-- `indices::figures::figures_of` meets its contract: the sums and the quotients are the callees'.
use Rattle.std.proofs.Common.{arith}
use Rattle.indices.specs.Parts.{sustained}
use Rattle.indices.proofs.BySums.{figures-by-sums}
use Rattle.indices.proofs.Ordering.{loss-ordered}
use Rattle.indices.proofs.figures.figures_of.Goals as goal

pub caidi_of-requires-clause-loss_le_loss : goal.caidi_of-requires-clause-loss_le_loss
caidi_of-requires-clause-loss_le_loss c =
    let ordered = loss-ordered c.requires.loss_bounds sustained c.args.loads.now (omega arith) in
    omega (arith, c.sums_of-low.ensures.loss.is, c.sums_of-high.ensures.loss.is, ordered)

pub returns : goal.returns
returns c =
    figures-by-sums c.sums_of-low.ensures c.sums_of-high.ensures _ c.caidi_of.ensures
    c.quotients.ensures c.quotients-2.ensures c.quotients-3.ensures

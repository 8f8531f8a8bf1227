-- `totals::clearing::clear` meets its contract: zeros are written over the places of classes, and what is behind them
-- stays.
use Rattle.std.proofs.Common.{◌∙◌, ap, replicate}
use lib.Seq.{length-take-le}
use Rattle.totals.proofs.Placed.{zeros-written}
use Rattle.totals.proofs.clearing.clear.Goals as goal

pub returns : goal.returns
returns c =
    zeros-written c.requires (c.fill.ensures.after (λ y e. e)
    ∙ ap (λ n. replicate n 0) (length-take-le 256 c.args.totals.now c.requires))

-- `totals::walk::add_totals` meets its contract: begun at component 0 with a bound of one, the walk adds what the
-- list's entries would.
use Rattle.totals.proofs.Added.{adds-alike}
use Rattle.totals.proofs.Onward.{walk-adds-up}
use Rattle.totals.proofs.walk.add_totals.Goals as goal

pub returns-clause-adds : goal.returns-clause-adds
returns-clause-adds g c =
    adds-alike (λ p. walk-adds-up _ _ _ _ _ p) c.add_paths.ensures.adds

pub returns-clause-adds_2 : goal.returns-clause-adds_2
returns-clause-adds_2 g c =
    adds-alike (λ p. walk-adds-up _ _ _ _ _ p) c.add_paths.ensures.adds_2

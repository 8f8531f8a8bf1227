-- The check for 16 decides soundness: both ways between the rules and the computed breach stand beside the check.
use Rattle.soundness.proofs.Checked.{check-accepts, check-refuses}
use Rattle.demands.specs.Demand1.{CheckDecides}

pub check-decides : CheckDecides
check-decides = record { accepts = check-accepts; refuses = check-refuses }

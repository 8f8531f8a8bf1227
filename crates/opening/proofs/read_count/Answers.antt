-- `opening::read_count` meets its contract: a count that is not refused is in range.
use Rattle.std.proofs.Common.{sym}
use Rattle.rules.proofs.Kept.{range-kept}
use Rattle.opening.proofs.read_count.Goals as goal

pub returns-clause-kept : goal.returns-clause-kept
returns-clause-kept c = (range-kept 1 _ _ _ (sym c.in_ok-count_fault.ensures)).most

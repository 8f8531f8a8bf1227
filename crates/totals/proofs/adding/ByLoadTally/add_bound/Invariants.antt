-- `totals::adding::ByLoad::add_bound` meets its contract. The loads below j have the bound added that their bit calls
-- for (`Placing`).
use Rattle.std.proofs.Common.{ℕ, ◌+◌, min, get_or}
use Rattle.lists.specs.Bits.{bit}
use Rattle.lists.specs.Counting.{counted}
use Rattle.rules.specs.Limits.{most_loads}
use Rattle.totals.proofs.Placed.{Placing}
use Rattle.totals.proofs.adding.ByLoadTally.add_bound.Given as goal

abbrev pub invariant-loop-j : goal.invariant-loop-j
invariant-loop-j l =
    Placing most_loads (λ (p : ℕ). min l.most (get_or l.initial.totals p 0 + counted
    (bit l.class p) l.bound)) l.initial.totals l.j l.totals

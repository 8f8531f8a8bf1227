-- `check_tools::listing::show_entries` is safe: each entry that comes is whole.
use Rattle.std.proofs.Common.{◌≡◌}
use Rattle.entries.specs.Entries.{entry_bytes}
use Rattle.check_tools.proofs.listing.show_entries.Given as goal

abbrev pub invariant-loop-bytes : goal.invariant-loop-bytes
invariant-loop-bytes g l =
    (goal.iterator-loop-bytes g).can_next l.bytes-iterator × (goal.iterator-loop-bytes g).is_finite l.bytes-iterator
    × (l.bytes-iterator.size ≡ entry_bytes l.n)

-- `entries::writing::empty_list` meets its contract: every place is written out as 0.
use Rattle.lists.proofs.Cleared.{is-cleared}
use Rattle.entries.specs.Entries.{list_bytes}
use Rattle.entries.proofs.writing.empty_list.Goals as goal

pub returns : goal.returns
returns c =
    is-cleared list_bytes

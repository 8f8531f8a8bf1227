-- `reading::cursor::Cursor::map` meets its contract: a map that is not refused is below the record's maps.
use Rattle.std.proofs.Common.{sym}
use borrow.Author.Tests.{leb-false}
use Rattle.rules.proofs.Kept.{refuse-kept}
use Rattle.reading.proofs.cursor.Cursor.map.Goals as goal

pub returns-clause-kept : goal.returns-clause-kept
returns-clause-kept c = leb-false _ _ (refuse-kept 2 _ (sym c.in_ok-stray_fault.ensures))

-- `entries::writing::write_entry` meets its contract: the bytes of the class stand behind the marks.
use Rattle.entries.proofs.ClassBehind.{marks-room, class-room, class-written}
use Rattle.entries.proofs.writing.write_entry.Goals as goal

pub copy-behind-requires : goal.copy-behind-requires
copy-behind-requires c =
    marks-room _ _ c.requires

pub write_class-requires : goal.write_class-requires
write_class-requires c =
    class-room _ _ c.requires c.copy-behind.ensures

pub returns : goal.returns
returns c =
    class-written _ _ c.requires c.copy-behind.ensures c.write_class.ensures

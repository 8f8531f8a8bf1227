-- `entries::class::class_from` meets its contract: the bytes at the place are those of the class.
use Rattle.entries.proofs.ClassBytes.{read_at}
use Rattle.entries.proofs.class.class_from.Goals as goal

pub returns : goal.returns
returns c =
    read_at c.args.bytes.now c.args.at

-- `entries::class::class_or` meets its contract: a class is one byte.
use Rattle.std.proofs.Common.{sym, ◌∙◌}
use Rattle.entries.proofs.ClassReading.{class_or_byte}
use Rattle.entries.proofs.class.class_or.Goals as goal

pub returns : goal.returns
returns g c = c.byte_or.ensures ∙ sym (class_or_byte _ c.args.bytes.now.rest.now)

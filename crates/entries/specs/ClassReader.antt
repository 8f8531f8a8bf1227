-- A class read from bytes, as any field is: from left to right, with a refusal where they end too soon.
use Rattle.std.specs.Prelude.{ℕ, cond, ltb, length, drop}
use Rattle.reading.specs.Reader.{Reader, refused, got}
use Rattle.entries.specs.Entries.{class_bytes, class_read}

-- one class; where the bytes end before or inside it, a refusal by the row `end`
unfoldable pub class_or : ℕ → Reader ℕ
unfolding class_read
class_or end bytes = cond (ltb (length bytes) class_bytes) (refused end) (got (class_read bytes) (drop class_bytes bytes))

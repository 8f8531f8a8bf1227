-- What a writer asks for before it writes, and what it leaves: the bytes stand behind those that were written before, and nothing else changes.
use Rattle.std.specs.Prelude.{ℕ, ◌+◌, ◌≤◌, ◌≡◌, List, length}
use Rattle.lists.specs.Rows.{put}
use Rattle.text.specs.declared.writer.Writer.{Writer}

-- x fits into what is left of the buffer
pub record Room (w : Writer) (x : List ℕ) : Type 0 where
  pub fits : w.size + length x ≤ length w.buffer.now

-- x was written
pub record Wrote (w : Writer) (x : List ℕ) (w' : Writer) : Type 0 where
  pub holds : w'.buffer.now ≡ put w.buffer.now w.size x
  pub behind : w'.size ≡ w.size + length x
  pub long : length w'.buffer.now ≡ length w.buffer.now
  pub same_buffer : w'.buffer.ghost_name ≡ w.buffer.ghost_name

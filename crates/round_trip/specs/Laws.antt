-- What reading and writing come to together, so that nobody has to hold the reader against the bytes field by field.
use Rattle.std.specs.Prelude.{ℕ, ◌+◌, ◌≤◌, ◌≡◌, List, ◌++◌, length}
use Rattle.study.specs.declared.Study.{Study}
use Rattle.study.specs.Places.{Shaped}
use Rattle.study_bytes.specs.Written.{study_bytes}
use Rattle.reading.specs.Reader.{got}
use Rattle.soundness.specs.Sound.{Sound}
use Rattle.opening.specs.Opening.{study}

-- The bytes of a sound study are read as that study, and whatever stands behind them is left.
abbrev pub ReadBack : Type 0
ReadBack = (t : Study) → Shaped t → Sound t → (rest : List ℕ) → study (study_bytes t ++ rest) ≡ got t rest

-- Whatever bytes are read as a study, those that reading took are no fewer than those written for it.
abbrev pub NoneShorter : Type 0
NoneShorter = (bytes : List ℕ) (t : Study) (rest : List ℕ) → study bytes ≡ got t rest → length (study_bytes t) + length rest ≤ length bytes

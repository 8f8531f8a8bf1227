-- What stands in a path's line for its components, place by place.
use Rattle.std.proofs.Common.{ℕ, ◌<◌, ◌≡◌, sym, ap, ◌∙◌, List, [], ◌∷◌, length, get_or, take}
use Rattle.std.proofs.Math.Seq.{get_or-take}
use Rattle.lists.specs.Rows.{joined}
use Rattle.lists.specs.Tabulate.{tabulate}
use Rattle.lists.proofs.Defaults.{get_or-inside}
use Rattle.lists.proofs.Joined.{ones-joined}
use Rattle.lists.proofs.Tabulated.{length-tabulate}
use Rattle.text.proofs.Written.{tables}
use Rattle.entries.specs.Entries.{blank_mark}
use Rattle.report_lines.specs.Paths.{mark_byte, mark_bytes}

-- what stands for component i
abbrev pub mark_at : List ℕ → ℕ → List ℕ
mark_at entry i = mark_byte (get_or entry i blank_mark) ∷ []

pub marks-long : (n : ℕ) (entry : List ℕ) → length (mark_bytes n entry) ≡ n
unfolding mark_bytes
marks-long n entry = length-tabulate (λ (i : ℕ). mark_byte (get_or entry i blank_mark)) n

pub marks-at : (n : ℕ) (entry : List ℕ) → mark_bytes n entry ≡ joined (tabulate (mark_at entry) n)
unfolding mark_bytes
marks-at n entry = sym (ones-joined (λ (i : ℕ). mark_byte (get_or entry i blank_mark)) n)

pub ruleset mark_tables = (marks-at, tables)

-- as the code finds it
pub mark-is : (n : ℕ) (entry : List ℕ) (i : ℕ) → i < n → i < length entry → mark_byte (get_or (take n entry) i 0) ≡ mark_byte (get_or entry i blank_mark)
mark-is n entry i inside h = ap mark_byte (get_or-take n entry i 0 inside ∙ get_or-inside entry i 0 blank_mark h)

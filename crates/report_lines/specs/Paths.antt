-- P lines: "P", a mark per component, the class, and the path's two bounds.
use Rattle.std.specs.Prelude.{ℕ, cond, List, [], ◌∷◌, map, ltb, get_or}
use Rattle.lists.specs.Rows.{joined}
use Rattle.lists.specs.Tabulate.{tabulate}
use Rattle.text.specs.Letters.{letters}
use Rattle.text.specs.Lines.{field, bounds_end}
use Rattle.text.specs.Numbers.{digit}
use Rattle.units.specs.Rounding.{down, up}
use Rattle.rules.specs.Limits.{most_states}
use Rattle.entries.specs.Entries.{blank_mark, class_borne}
use Rattle.probability.specs.Bounds.{path_bound}

-- the dash of a blank component
abbrev pub dash : ℕ
dash = 45

-- what stands for a component: the digit of its state, or a dash
abbrev pub mark_byte : ℕ → ℕ
mark_byte mark = cond (ltb mark most_states) (digit mark) dash

-- the first n marks of an entry
unfoldable pub mark_bytes : ℕ → List ℕ → List ℕ
mark_bytes n entry = tabulate (λ (i : ℕ). mark_byte (get_or entry i blank_mark)) n

-- the line of an entry of n components with this class and these bounds
unfoldable pub entry_line : ℕ → List ℕ → ℕ → ℕ → ℕ → List ℕ
entry_line n entry class lower upper = joined (letters "P " ∷ mark_bytes n entry ∷ field class ∷ bounds_end lower upper ∷ [])

unfoldable pub path_line : List ℕ → ℕ → List ℕ → List ℕ
path_line probabilities n entry = entry_line n entry (class_borne n entry) (path_bound down probabilities n entry) (path_bound up probabilities n entry)

-- a line for each path, in the list's order
unfoldable pub path_lines : List ℕ → ℕ → List (List ℕ) → List ℕ
path_lines probabilities n entries = joined (map (path_line probabilities n) entries)

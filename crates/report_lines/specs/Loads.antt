-- L lines: "L", the number of a load, and its two bounds.
use Rattle.std.specs.Prelude.{ℕ, List, get_or}
use Rattle.lists.specs.Rows.{joined}
use Rattle.lists.specs.Tabulate.{tabulate}
use Rattle.text.specs.Letters.{letters}
use Rattle.text.specs.Lines.{item_line}

-- the line of load j, from tables by load
unfoldable pub load_line : List ℕ → List ℕ → ℕ → List ℕ
load_line lower upper j = item_line (letters "L") j (get_or lower j 0) (get_or upper j 0)

-- a line for each of so many loads
unfoldable pub load_lines : List ℕ → List ℕ → ℕ → List ℕ
load_lines lower upper loads = joined (tabulate (load_line lower upper) loads)

-- K lines: "K", a class that occurs, and its two bounds.
use Rattle.std.specs.Prelude.{ℕ, List, map, eqb, ltb, get_or}
use Rattle.lists.specs.Counting.{truth, those, sum_over}
use Rattle.lists.specs.Rows.{joined}
use Rattle.lists.specs.Tabulate.{tabulate}
use Rattle.text.specs.Letters.{letters}
use Rattle.text.specs.Lines.{item_line}
use Rattle.entries.specs.Entries.{class_borne, class_places}

-- how many paths bear class c
unfoldable pub bearing : ℕ → List (List ℕ) → ℕ → ℕ
bearing n entries c = sum_over (λ (entry : List ℕ). truth (eqb (class_borne n entry) c)) entries

-- those of all classes, ascending, with a number of paths above 0
unfoldable pub classes_with : (ℕ → ℕ) → List ℕ
classes_with paths = those (λ (c : ℕ). ltb 0 (paths c)) (tabulate (λ (c : ℕ). c) class_places)

-- the classes that occur: those that some path bears
unfoldable pub classes_borne : ℕ → List (List ℕ) → List ℕ
classes_borne n entries = classes_with (bearing n entries)

-- the line of class c, from tables by class
unfoldable pub class_line : List ℕ → List ℕ → ℕ → List ℕ
class_line lower upper c = item_line (letters "K") c (get_or lower c 0) (get_or upper c 0)

-- a line for each of these classes
unfoldable pub class_lines : List ℕ → List ℕ → List ℕ → List ℕ
class_lines classes lower upper = joined (map (class_line lower upper) classes)

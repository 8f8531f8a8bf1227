-- The lines of paths and of classes, line by line.
use Prim.Native.Nat.{ℕ, ◌<◌}
use mathlib.Core.Path.{◌≡◌, sym, ap, ◌∙◌}
use mathlib.Core.List.{List, [], map}
use lib.ListN.{length, get_or, length-map}
use Rattle.lists.specs.Rows.{joined}
use Rattle.lists.specs.Tabulate.{tabulate}
use Rattle.lists.proofs.Elements.{Every}
use Rattle.lists.proofs.Maps.{get_or-map-inside}
use Rattle.lists.proofs.Tabulated.{tabulated, tabulate-alike}
use Rattle.text.specs.Letters.{letters}
use Rattle.text.specs.Lines.{item_line}
use Rattle.text.proofs.Written.{tables}
use Rattle.entries.specs.Entries.{class_places, entry_at, entries_of}
use Rattle.entries.proofs.Entries.{entries-long, entry-is}
use Rattle.report_lines.specs.Classes.{class_line, class_lines}
use Rattle.report_lines.specs.Paths.{path_line, path_lines}

-- ---- the paths of a list

-- the line of path k
abbrev pub line_at : List ℕ → ℕ → List ℕ → ℕ → List ℕ
line_at probabilities n list k = path_line probabilities n (entry_at n list k)

pub lines_at : (probabilities : List ℕ) (n : ℕ) (list : List ℕ) (paths : ℕ)
    → path_lines probabilities n (entries_of n paths list) ≡ joined (tabulate (line_at probabilities n list) paths)
unfolding path_lines
lines_at probabilities n list paths =
    let entries = entries_of n paths list in
    let long = length-map entries (path_line probabilities n) ∙ entries-long n paths list in
    let line = path_line probabilities n in
    ap joined (tabulated (line_at probabilities n list) paths (map line entries) [] long
    (λ k h. get_or-map-inside line entries k [] [] (rw (entries-long n paths list) h) ∙ ap line (entry-is n paths list k h)))

pub ruleset path_tables = (lines_at, tables)

-- ---- classes

-- the line of class k of a list of classes
abbrev pub class_line_at : List ℕ → List ℕ → List ℕ → ℕ → List ℕ
class_line_at classes lower upper k = class_line lower upper (get_or classes k 0)

pub class-lines-at : (classes lower upper : List ℕ)
    → class_lines classes lower upper ≡ joined (tabulate (class_line_at classes lower upper) (length classes))
unfolding class_lines
class-lines-at classes lower upper =
    let line = class_line lower upper in
    ap joined (tabulated (class_line_at classes lower upper) (length classes) (map line classes) [] (length-map classes line)
    (λ k h. get_or-map-inside line classes k 0 [] h))

pub ruleset class_tables = (class-lines-at, tables)

-- what stands behind the places of classes does not matter
pub class-lines-alike : (classes lower upper lower' upper' : List ℕ) → Every (λ (c : ℕ). c < class_places) 0 classes
    → ((c : ℕ) → c < class_places → get_or lower c 0 ≡ get_or lower' c 0) → ((c : ℕ) → c < class_places → get_or upper c 0 ≡ get_or upper' c 0)
    → class_lines classes lower upper ≡ class_lines classes lower' upper'
unfolding class_line
class-lines-alike classes lower upper lower' upper' inside low high =
    class-lines-at classes lower upper
    ∙ ap joined (tabulate-alike (class_line_at classes lower upper) (class_line_at classes lower' upper') (length classes)
    (λ k h.
    let c = get_or classes k 0 in
    λ i. item_line (letters "K") c (low c (inside k h) i) (high c (inside k h) i)))
    ∙ sym (class-lines-at classes lower' upper')

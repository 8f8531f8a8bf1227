-- The K lines of a list of paths.
use Rattle.std.specs.Prelude.{ℕ, cond, List, [], eqb, ltb}
use Rattle.text.specs.Letters.{letters}
use Rattle.text.specs.Lines.{item_line}
use Rattle.probability.specs.Bounds.{lower_total, upper_total}
use Rattle.probability.specs.Totals.{lower_classes, upper_classes}
use Rattle.report_lines.specs.Classes.{bearing, classes_borne, class_lines}

abbrev pub listed_lines : List ℕ → ℕ → List (List ℕ) → List ℕ
listed_lines probabilities n entries =
    class_lines (classes_borne n entries) (lower_classes probabilities n entries) (upper_classes probabilities n entries)

-- what only the code needs: the line of class c with no tables, and none where no path bears it
unfoldable pub listed_line : List ℕ → ℕ → List (List ℕ) → ℕ → List ℕ
listed_line probabilities n entries c =
    cond (ltb 0 (bearing n entries c))
    (item_line (letters "K") c
    (lower_total probabilities n (λ (class : ℕ). eqb class c) entries)
    (upper_total probabilities n (λ (class : ℕ). eqb class c) entries))
    []

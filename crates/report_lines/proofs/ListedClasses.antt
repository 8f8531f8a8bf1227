-- The K lines of a list of paths: the lines of the tables by class are those of each class.
use Prim.Native.Nat.{ℕ, ◌<◌}
use mathlib.Core.Path.{◌≡◌, refl, ap, ◌∙◌}
use mathlib.Core.Bool.{cond}
use mathlib.Core.List.{List, []}
use lib.Dec.{eqb, ltb}
use Rattle.lists.specs.Rows.{joined}
use Rattle.lists.specs.Tabulate.{tabulate}
use Rattle.lists.proofs.Tabulated.{get_or-tabulate, tabulate-alike}
use Rattle.text.proofs.Written.{tables}
use Rattle.entries.specs.Entries.{class_places}
use Rattle.probability.specs.Bounds.{lower_total, upper_total}
use Rattle.probability.specs.Totals.{lower_classes, upper_classes}
use Rattle.report_lines.specs.Classes.{bearing, classes_with, classes_borne, class_line, class_lines}
use Rattle.report_lines.specs.ListedClasses.{listed_line, listed_lines}
use Rattle.report_lines.proofs.Below.{below-joined}

-- the lines of the tables by class, class by class
pub listed-lines : (probabilities : List ℕ) (n : ℕ) (entries : List (List ℕ))
    → listed_lines probabilities n entries ≡ joined (tabulate (listed_line probabilities n entries) class_places)
unfolding class_lines class_line classes_borne classes_with listed_line
listed-lines probabilities n entries =
    below-joined (λ (c : ℕ). ltb 0 (bearing n entries c)) from-tables class_places
    ∙ ap joined
    (tabulate-alike (λ (c : ℕ). cond (ltb 0 (bearing n entries c)) (from-tables c) []) (listed_line probabilities n entries) class_places same)
  where
    lower : ℕ → ℕ
    lower c = lower_total probabilities n (λ (class : ℕ). eqb class c) entries

    upper : ℕ → ℕ
    upper c = upper_total probabilities n (λ (class : ℕ). eqb class c) entries

    from-tables : ℕ → List ℕ
    from-tables c = class_line (lower_classes probabilities n entries) (upper_classes probabilities n entries) c

    same : (c : ℕ) → c < class_places → cond (ltb 0 (bearing n entries c)) (from-tables c) [] ≡ listed_line probabilities n entries c
    same c h = rw (get_or-tabulate lower class_places c 0 h, get_or-tabulate upper class_places c 0 h) refl

pub ruleset class_tables = (listed-lines, tables)

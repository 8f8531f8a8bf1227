-- How long the lines of a report are at most.
use Prim.Native.Nat.{ℕ, ◌*◌, ◌^◌, ◌<◌, ◌≤◌}
use mathlib.Core.List.{List, [], map}
use native.Mathlib.Omega.{arith}
use lib.ListN.{length, get_or, length-map}
use Rattle.lists.specs.Counting.{sum_over}
use Rattle.lists.specs.Rows.{joined}
use Rattle.lists.proofs.Elements.{Every, every_map}
use Rattle.lists.proofs.Joined.{joined-short}
use Rattle.text.specs.Letters.{letters}
use Rattle.text.proofs.Short.{joined_length, field-short, ending-short, bounds-short, item-short, lines-short}
use Rattle.units.specs.One.{one}
use Rattle.units.specs.Rounding.{down, up}
use Rattle.rules.specs.Limits.{most_components, most_loads}
use Rattle.entries.specs.Entries.{class_borne, class_places}
use Rattle.probability.specs.Bounds.{path_bound}
use Rattle.probability.specs.Probabilities.{AtMostOne}
use Rattle.probability.proofs.Most.{path-most}
use Rattle.answers.specs.declared.figures.Caidi.{Caidi}
use Rattle.answers.specs.declared.figures.Caidi.TheVariants.{Bounds, NotStated}
use Rattle.units.specs.declared.bounds.Enclosure.{Enclosure}
use Rattle.answers.specs.declared.figures.Figures.{Figures as FigureValues}
use Rattle.report_lines.specs.Classes.{class_line, class_lines}
use Rattle.report_lines.specs.Figures.{caidi_line, all_figures}
use Rattle.report_lines.specs.Loads.{load_line, load_lines}
use Rattle.report_lines.specs.Paths.{entry_line, path_line, path_lines}
use Rattle.report_lines.proofs.Marked.{marks-long}

-- lines of at most so many bytes, one for each element of a list
map-short : {A : Type 0} (line : A → List ℕ) (d : A) (width : ℕ) (l : List A) → Every (λ (x : A). length (line x) ≤ width) d l
    → length (joined (map line l)) ≤ length l * width
map-short line d width l each =
    let short = joined-short width (map line l) (every_map line d [] (λ (row : List ℕ). length row ≤ width) l each) in
    rw (length-map l line) at short

-- ---- paths

entry-short : (n : ℕ) (entry : List ℕ) (class lower upper : ℕ) → n ≤ most_components → class < class_places → lower ≤ one → upper ≤ one
    → length (entry_line n entry class lower upper) ≤ 41
unfolding entry_line sum_over
entry-short n entry class lower upper few small low high =
    rw (joined_length _)
    (omega (
      arith,
      marks-long n entry,
      field-short 3 (omega arith) class (omega (arith, small)),
      ending-short 10 (omega arith) lower upper (omega (arith, low)) (omega (arith, high)),
    ))

pub path-lines-short : (probabilities : List ℕ) (n : ℕ) (entries : List (List ℕ)) → AtMostOne probabilities → n ≤ most_components
    → Every (λ (entry : List ℕ). class_borne n entry < class_places) [] entries → length (path_lines probabilities n entries) ≤ length entries * 41
unfolding path_lines path_line
path-lines-short probabilities n entries probability few small = map-short (path_line probabilities n) [] 41 entries each
  where
    each : Every (λ (entry : List ℕ). length (path_line probabilities n entry) ≤ 41) [] entries
    each k h =
        let entry = get_or entries k [] in
        entry-short n entry (class_borne n entry) (path_bound down probabilities n entry) (path_bound up probabilities n entry) few (small k h)
        (path-most down (omega arith) probabilities probability n n entry)
        (path-most up (omega arith) probabilities probability n n entry)

-- ---- classes and loads

class-short : (lower upper : List ℕ) (c : ℕ) → c < class_places → get_or lower c 0 < 10 ^ 13 → get_or upper c 0 < 10 ^ 13 → length (class_line lower upper c) ≤ 34
unfolding class_line
class-short lower upper c inside low high =
    let number = field-short 3 (omega arith) c (omega (arith, inside)) in
    item-short 13 (omega arith) 3 (letters "K") c (get_or lower c 0) (get_or upper c 0) number low high

pub class-lines-short : (classes lower upper : List ℕ) → Every (λ (c : ℕ). c < class_places) 0 classes
    → ((c : ℕ) → c < class_places → get_or lower c 0 < 10 ^ 13) → ((c : ℕ) → c < class_places → get_or upper c 0 < 10 ^ 13)
    → length (class_lines classes lower upper) ≤ length classes * 34
unfolding class_lines
class-lines-short classes lower upper inside low high =
    map-short (class_line lower upper) 0 34 classes
    (λ k h.
    let c = get_or classes k 0 in
    class-short lower upper c (inside k h) (low c (inside k h)) (high c (inside k h)))

pub load-lines-short : (lower upper : List ℕ) (loads : ℕ) → loads ≤ most_loads → ((j : ℕ) → j < loads → get_or lower j 0 ≤ one)
    → ((j : ℕ) → j < loads → get_or upper j 0 ≤ one) → length (load_lines lower upper loads) ≤ loads * 26
unfolding load_lines load_line
load-lines-short lower upper loads few low high =
    lines-short (load_line lower upper) loads 26 (λ j h.
    let number = field-short 1 (omega arith) j (omega (arith, h, few)) in
    item-short 10 (omega arith) 1 (letters "L") j (get_or lower j 0) (get_or upper j 0) number (omega (arith, low j h)) (omega (arith, high j h)))

-- ---- figures

abbrev pub Printable : Enclosure → Type 0
Printable b = (b.lower < 10 ^ 20) × (b.upper < 10 ^ 20)

abbrev pub CaidiPrintable : Caidi → Type 0
CaidiPrintable (Bounds b) = Printable b
CaidiPrintable NotStated = Unit

caidi-short : (caidi : Caidi) → CaidiPrintable caidi → length (caidi_line caidi) ≤ 48
unfolding caidi_line
caidi-short (Bounds b) h = bounds-short 20 (omega arith) (letters "CAIDI") b.lower b.upper h.0 h.1
caidi-short NotStated h = omega arith

pub figures-short : (f : FigureValues) → Printable f.saifi → Printable f.saidi → CaidiPrintable f.caidi → Printable f.maifi
    → length (all_figures f) ≤ 192
unfolding all_figures sum_over
figures-short f saifi saidi caidi maifi =
    let first = bounds-short 20 (omega arith) (letters "SAIFI") f.saifi.lower f.saifi.upper saifi.0 saifi.1 in
    let second = bounds-short 20 (omega arith) (letters "SAIDI") f.saidi.lower f.saidi.upper saidi.0 saidi.1 in
    let last = bounds-short 20 (omega arith) (letters "MAIFI") f.maifi.lower f.maifi.upper maifi.0 maifi.1 in
    rw (joined_length _) (omega (arith, first, second, caidi-short f.caidi caidi, last))

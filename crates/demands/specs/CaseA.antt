-- The claims that the definition of the report gives case A of document 01 its report, byte for byte, and a refused study its line.
use Rattle.std.specs.Prelude.{ℕ, ◌≡◌, List, [], ◌∷◌}
use Rattle.lists.specs.Rows.{joined}
use Rattle.text.specs.Letters.{letters}
use Rattle.report_text.specs.Report.{report_text}

-- two components that fail at 0.1 and 0.2; the load is lost when either fails
abbrev pub case_a : List ℕ
case_a =
    2 ∷ 1 ∷ 1
    ∷ 2 ∷ 0x00 ∷ 0xE1 ∷ 0xF5 ∷ 0x05
    ∷ 2 ∷ 0x00 ∷ 0xC2 ∷ 0xEB ∷ 0x0B
    ∷ 2 ∷ 2 ∷ 0 ∷ 2 ∷ 1 ∷ 2
    ∷ 7 ∷ 0 ∷ 100 ∷ 0 ∷ 0 ∷ 0 ∷ 60 ∷ 0 ∷ 0 ∷ 0
    ∷ []

abbrev pub case_a_text : List ℕ
case_a_text =
    joined
    (letters "PATHS 3\n"
    ∷ letters "P 00 0 720000000 720000000\n"
    ∷ letters "P 01 1 180000000 180000000\n"
    ∷ letters "P 1- 1 100000000 100000000\n"
    ∷ letters "K 0 720000000 720000000\n"
    ∷ letters "K 1 280000000 280000000\n"
    ∷ letters "L 0 280000000 280000000\n"
    ∷ letters "SAIFI 280000000 280000000\n"
    ∷ letters "SAIDI 16800000000 16800000000\n"
    ∷ letters "CAIDI 60 60\n"
    ∷ letters "MAIFI 0 0\n"
    ∷ [])

abbrev pub CaseA : Type 0
CaseA = report_text case_a ≡ case_a_text

-- A refused study has one line: here state 1 of the first component is a unit over one.
abbrev pub over_one : List ℕ
over_one = 1 ∷ 1 ∷ 1 ∷ 2 ∷ 0x01 ∷ 0xCA ∷ 0x9A ∷ 0x3B ∷ []

abbrev pub OverOne : Type 0
OverOne = report_text over_one ≡ letters "REFUSED 6 over one\n"

-- A study as bytes: three counts, then its component, gate and load records. A field that holds the value it has where a record leaves it out is not
-- written, so that no shorter bytes open to the study.
use Rattle.std.specs.Prelude.{ℕ, ◌+◌, ◌*◌, ◌/◌, ◌%◌, cond, List, [], ◌∷◌, ◌++◌, eqb, get_or}
use Rattle.lists.specs.Rows.{joined}
use Rattle.lists.specs.Tabulate.{tabulate}
use Rattle.study.specs.declared.Component.{Component}
use Rattle.study.specs.declared.Gate.{Gate}
use Rattle.study.specs.declared.Load.{Load}
use Rattle.study.specs.declared.Study.{Study}
use Rattle.study.specs.Absent.{absent_component, absent_gate, absent_load}
use Rattle.study.specs.Places.{component_at, gate_at, load_at}

-- a number as one byte, and as four, the lowest first
abbrev pub byte_of : ℕ → List ℕ
byte_of n = n ∷ []

abbrev pub four_bytes_of : ℕ → List ℕ
four_bytes_of n = n % 256 ∷ n / 256 % 256 ∷ n / 65536 % 256 ∷ n / 16777216 % 256 ∷ []

-- a field: its bytes, and none where it holds its absent value
abbrev pub field : ℕ → ℕ → List ℕ → List ℕ
field absent value bytes = cond (eqb value absent) [] bytes

-- 1 for a field that is written, 0 for one that is not
abbrev pub given : List ℕ → ℕ
given [] = 0
given (b ∷ bytes) = 1

-- the map of some fields: bit k stands where field k is written
unfoldable pub map_of : List (List ℕ) → ℕ
map_of [] = 0
map_of (x ∷ fields) = given x + 2 * map_of fields

-- a record: its map, then its fields
unfoldable pub record_bytes : List (List ℕ) → List ℕ
unfolding map_of joined
record_bytes fields = map_of fields ∷ joined fields

abbrev pub component_fields : Component → List (List ℕ)
component_fields c =
    field absent_component.states c.states (byte_of c.states)
    ∷ field absent_component.p1 c.p1 (four_bytes_of c.p1)
    ∷ field absent_component.p2 c.p2 (four_bytes_of c.p2)
    ∷ field absent_component.p3 c.p3 (four_bytes_of c.p3)
    ∷ []

-- test j of a gate, and its gate input j
abbrev pub test_bytes : Gate → ℕ → List ℕ
test_bytes g j = get_or g.component j 0 ∷ get_or g.mask j 0 ∷ []

abbrev pub input_bytes : Gate → ℕ → List ℕ
input_bytes g j = byte_of (get_or g.input j 0)

-- the tests, and the gate inputs, go behind their count
abbrev pub tests_bytes : Gate → List ℕ
tests_bytes g = g.tests ∷ joined (tabulate (test_bytes g) g.tests)

abbrev pub inputs_bytes : Gate → List ℕ
inputs_bytes g = g.gates ∷ joined (tabulate (input_bytes g) g.gates)

abbrev pub gate_fields : Gate → List (List ℕ)
gate_fields g =
    field absent_gate.threshold g.threshold (byte_of g.threshold)
    ∷ field absent_gate.tests g.tests (tests_bytes g)
    ∷ field absent_gate.gates g.gates (inputs_bytes g)
    ∷ []

abbrev pub load_fields : Load → List (List ℕ)
load_fields l =
    field absent_load.gate l.gate (byte_of l.gate)
    ∷ field absent_load.customers l.customers (four_bytes_of l.customers)
    ∷ field absent_load.minutes l.minutes (four_bytes_of l.minutes)
    ∷ []

-- the record of each component, gate and load
abbrev pub component_bytes : Component → List ℕ
component_bytes c = record_bytes (component_fields c)

abbrev pub gate_bytes : Gate → List ℕ
gate_bytes g = record_bytes (gate_fields g)

abbrev pub load_bytes : Load → List ℕ
load_bytes l = record_bytes (load_fields l)

-- the records of each kind, one behind the other
abbrev pub components_bytes : Study → List ℕ
components_bytes t = joined (tabulate (λ (i : ℕ). component_bytes (component_at t i)) t.components)

abbrev pub gates_bytes : Study → List ℕ
gates_bytes t = joined (tabulate (λ (i : ℕ). gate_bytes (gate_at t i)) t.gates)

abbrev pub loads_bytes : Study → List ℕ
loads_bytes t = joined (tabulate (λ (j : ℕ). load_bytes (load_at t j)) t.loads)

-- the bytes of a study
unfoldable pub study_bytes : Study → List ℕ
unfolding record_bytes joined tabulate
study_bytes t = t.components ∷ t.gates ∷ t.loads ∷ (components_bytes t ++ (gates_bytes t ++ loads_bytes t))

-- The image of a study, field behind field, and the study that an image holds.
use Rattle.std.specs.Prelude.{ℕ, ◌+◌, ◌/◌, ◌%◌, cond, List, [], ◌∷◌, ◌++◌, ltb, length, get_or, take, drop}
use Rattle.lists.specs.Rows.{joined}
use Rattle.lists.specs.Tabulate.{tabulate}
use Rattle.rules.specs.Limits.{most_components, most_gates, most_loads, most_tests, most_gate_inputs}
use Rattle.reading.specs.Reader.{number}
use Rattle.study.specs.declared.Component.{Component}
use Rattle.study.specs.declared.Gate.{Gate}
use Rattle.study.specs.declared.Load.{Load}
use Rattle.study.specs.declared.Study.{Study}
use Rattle.study.specs.Zero.{zero_component, zero_load, zero_study}
use Rattle.study.specs.Places.{no_gate}
use Rattle.study_image.specs.Places.{p1_at, p2_at, p3_at, component_place}
use Rattle.study_image.specs.Places.{test_count_at, test_components_at, test_masks_at, input_count_at, inputs_at, gate_place}
use Rattle.study_image.specs.Places.{customers_at, minutes_at, load_place}
use Rattle.study_image.specs.Places.{component_count_at, gate_count_at, load_count_at, image_bytes}

-- ---- the fields of an image, one behind the other

-- a field of one byte
abbrev pub byte_of : ℕ → List ℕ
byte_of n = n ∷ []

-- a field of four bytes, lowest byte first
abbrev pub bytes_of : ℕ → List ℕ
bytes_of n = n % 256 ∷ n / 256 % 256 ∷ n / 65536 % 256 ∷ n / 16777216 % 256 ∷ []

-- a component: its state count, then the probabilities of its states 1 to 3
abbrev pub component_row : Component → List ℕ
component_row c = byte_of c.states ++ bytes_of c.p1 ++ bytes_of c.p2 ++ bytes_of c.p3

-- a gate: its threshold and the number of its tests, the component and the mask of each, then the number of its gate inputs, and these
abbrev pub gate_fields : Gate → List (List ℕ)
gate_fields g = (g.threshold ∷ g.tests ∷ []) ∷ g.component ∷ g.mask ∷ byte_of g.gates ∷ g.input ∷ []

unfoldable pub gate_row : Gate → List ℕ
gate_row g = joined (gate_fields g)

-- a load: its loss gate, its customers, its minutes
abbrev pub load_row : Load → List ℕ
load_row l = byte_of l.gate ++ bytes_of l.customers ++ bytes_of l.minutes

-- the places of each kind, whether a record uses them or not
-- a component: its state count, then the probabilities of its states 1 to 3
abbrev pub component_rows : List Component → List ℕ
component_rows l = joined (tabulate (λ (i : ℕ). component_row (get_or l i zero_component)) most_components)

abbrev pub gate_rows : List Gate → List ℕ
gate_rows l = joined (tabulate (λ (i : ℕ). gate_row (get_or l i no_gate)) most_gates)

abbrev pub load_rows : List Load → List ℕ
load_rows l = joined (tabulate (λ (j : ℕ). load_row (get_or l j zero_load)) most_loads)

-- a study: the numbers of its components, gates and loads, then the places of each
abbrev pub study_fields : Study → List (List ℕ)
study_fields t = (t.components ∷ t.gates ∷ t.loads ∷ []) ∷ component_rows t.component ∷ gate_rows t.gate ∷ load_rows t.load ∷ []

unfoldable pub image_of : Study → List ℕ
image_of t = joined (study_fields t)

-- ---- what an image holds

-- a byte, the number of four bytes, and so many bytes, from a place on
abbrev pub byte_in : List ℕ → ℕ → ℕ
byte_in image at = get_or image at 0

abbrev pub number_in : List ℕ → ℕ → ℕ
number_in image at = number (byte_in image at) (byte_in image (at + 1)) (byte_in image (at + 2)) (byte_in image (at + 3))

abbrev pub bytes_in : List ℕ → ℕ → ℕ → List ℕ
bytes_in image at n = take n (drop at image)

-- component i, gate i and load j
abbrev pub component_in : List ℕ → ℕ → Component
component_in image i =
    record {
      states = byte_in image (component_place i);
      p1 = number_in image (component_place i + p1_at);
      p2 = number_in image (component_place i + p2_at);
      p3 = number_in image (component_place i + p3_at);
    }

abbrev pub gate_in : List ℕ → ℕ → Gate
gate_in image i =
    record {
      threshold = byte_in image (gate_place i);
      tests = byte_in image (gate_place i + test_count_at);
      component = bytes_in image (gate_place i + test_components_at) most_tests;
      mask = bytes_in image (gate_place i + test_masks_at) most_tests;
      gates = byte_in image (gate_place i + input_count_at);
      input = bytes_in image (gate_place i + inputs_at) most_gate_inputs;
    }

abbrev pub load_in : List ℕ → ℕ → Load
load_in image j =
    record {
      gate = byte_in image (load_place j);
      customers = number_in image (load_place j + customers_at);
      minutes = number_in image (load_place j + minutes_at);
    }

-- the study that an image holds; what is too short for one holds a study of zeros
unfoldable pub study_in : List ℕ → Study
study_in image =
    cond (ltb (length image) image_bytes) zero_study
    (record {
      components = byte_in image component_count_at;
      gates = byte_in image gate_count_at;
      loads = byte_in image load_count_at;
      component = tabulate (component_in image) most_components;
      gate = tabulate (gate_in image) most_gates;
      load = tabulate (load_in image) most_loads;
    })

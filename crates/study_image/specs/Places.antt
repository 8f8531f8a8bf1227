-- Where everything stands in the image of a study. The numbers are those of the format; the code adds them up from the places of a study.
use Rattle.std.specs.Prelude.{ℕ, ◌+◌, ◌*◌}

-- ---- the image: the numbers of components, of gates and of loads, then the places of each

abbrev pub component_count_at : ℕ
component_count_at = 0

abbrev pub gate_count_at : ℕ
gate_count_at = 1

abbrev pub load_count_at : ℕ
load_count_at = 2

abbrev pub components_at : ℕ
components_at = 3

abbrev pub gates_at : ℕ
gates_at = 159

abbrev pub loads_at : ℕ
loads_at = 2015

abbrev pub image_bytes : ℕ
image_bytes = 2087

-- a number of four bytes
abbrev pub number_bytes : ℕ
number_bytes = 4

-- ---- a component place: its state count, then the probabilities of states 1 to 3

abbrev pub p1_at : ℕ
p1_at = 1

abbrev pub p2_at : ℕ
p2_at = 5

abbrev pub p3_at : ℕ
p3_at = 9

abbrev pub component_bytes : ℕ
component_bytes = 13

-- ---- a gate place: its threshold, the number of its tests, the component of each, the mask of each, the number of its gate inputs, and these

abbrev pub test_count_at : ℕ
test_count_at = 1

abbrev pub test_components_at : ℕ
test_components_at = 2

abbrev pub test_masks_at : ℕ
test_masks_at = 14

abbrev pub input_count_at : ℕ
input_count_at = 26

abbrev pub inputs_at : ℕ
inputs_at = 27

abbrev pub gate_bytes : ℕ
gate_bytes = 58

-- ---- a load place: its loss gate, its customers, its minutes

abbrev pub customers_at : ℕ
customers_at = 1

abbrev pub minutes_at : ℕ
minutes_at = 5

abbrev pub load_bytes : ℕ
load_bytes = 9

-- ---- where component i, gate i and load j stand

abbrev pub component_place : ℕ → ℕ
component_place i = components_at + i * component_bytes

abbrev pub gate_place : ℕ → ℕ
gate_place i = gates_at + i * gate_bytes

abbrev pub load_place : ℕ → ℕ
load_place j = loads_at + j * load_bytes

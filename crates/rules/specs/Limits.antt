-- The limits of the study format, which losses are momentary, and how far an exponent goes.
use Rattle.std.specs.Prelude.{ℕ, ◌*◌, ◌^◌, Bool, leb}

abbrev pub most_components : ℕ
most_components = 12

abbrev pub most_gates : ℕ
most_gates = 32

abbrev pub most_loads : ℕ
most_loads = 8

-- the state count of a component
abbrev pub fewest_states : ℕ
fewest_states = 2

abbrev pub most_states : ℕ
most_states = 4

-- a mask is a byte: a bit for each state
abbrev pub mask_bits : ℕ
mask_bits = 8

abbrev pub most_joint_states : ℕ
most_joint_states = 4096

-- the inputs of one gate
abbrev pub most_tests : ℕ
most_tests = 12

abbrev pub most_gate_inputs : ℕ
most_gate_inputs = 31

-- the customers of one load, and of all loads together
abbrev pub most_customers : ℕ
most_customers = 100000

abbrev pub most_served : ℕ
most_served = most_loads * most_customers

abbrev pub most_minutes : ℕ
most_minutes = 20000

-- the longest restore time of a momentary loss, in minutes
abbrev pub longest_momentary : ℕ
longest_momentary = 5

-- a loss is momentary that is over after so many minutes; a longer one is sustained
unfoldable pub momentary : ℕ → Bool
momentary minutes = leb minutes longest_momentary

-- one above the largest map of each record: bits 0 to 3 of a component's have a meaning, and bits 0 to 2 of a gate's and a load's
abbrev pub component_maps : ℕ
component_maps = 2 ^ 4

abbrev pub gate_maps : ℕ
gate_maps = 2 ^ 3

abbrev pub load_maps : ℕ
load_maps = 2 ^ 3

-- the loss gate of a load that is never lost: a number that no gate has
abbrev pub never : ℕ
never = 255

-- The bytes of the longest study that opens: three counts; six components of four states with every field, 14 bytes each, the most that components with
-- 4,096 joint states take; gate 0 with twelve tests, 27; 31 more gates with twelve tests and 31 gate inputs, 59 each; eight loads with every field, 10 each.
abbrev pub longest_study : ℕ
longest_study = 2023

-- the largest exponent whose exponential is given: twenty times one
abbrev pub farthest : ℕ
farthest = 20000000000

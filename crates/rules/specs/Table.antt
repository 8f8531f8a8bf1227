-- The refusal table: each row once, on plain numbers, with its number and its rule.
use Rattle.std.specs.Prelude.{ℕ, ◌+◌, ◌-◌, ◌/◌, ◌^◌, Bool, not, ◌||◌, ltb, leb, eqb}
use Rattle.units.specs.One.{one}
use Rattle.rules.specs.Limits.{fewest_states, most_states, most_joint_states, never, farthest}
use Rattle.rules.specs.Breach.{refuse, outside, unless_absent}

-- 1 short: the bytes lack a due field, or part of it
abbrev pub short : ℕ
short = 1

-- 2 counts: the number of components, gates or loads is not 1 to its limit
abbrev pub count_fault : ℕ → ℕ → ℕ
count_fault most n = refuse 2 (outside 1 most n)

-- 3 stray bit: a map bit without meaning, so that the map is not below the record's maps
abbrev pub stray_fault : ℕ → ℕ → ℕ
stray_fault maps map = refuse 3 (leb maps map)

-- 4 states: the state count is not 2 to 4
abbrev pub states_fault : ℕ → ℕ
states_fault states = refuse 4 (outside fewest_states most_states states)

-- 5 no state: a probability of a state that the component lacks
abbrev pub no_state_fault : ℕ → ℕ → ℕ
no_state_fault states state = refuse 5 (leb states state)

-- 5 in a study and in an edit: a probability above 0 of a state that the component lacks
abbrev pub lacked_state_fault : ℕ → ℕ → ℕ → ℕ
lacked_state_fault states state p = unless_absent 0 p (no_state_fault states state)

-- 6 over one: the probabilities of states 1 to 3 are together above one
abbrev pub sum_fault : ℕ → ℕ → ℕ → ℕ
sum_fault p1 p2 p3 = refuse 6 (ltb one (p1 + p2 + p3))

-- 7 too wide: the joint states pass 4,096
abbrev pub width_fault : ℕ → ℕ
width_fault joint_states = refuse 7 (ltb most_joint_states joint_states)

-- 8 inputs: a count of tests or gates is not 1 to its limit
abbrev pub inputs_fault : ℕ → ℕ → ℕ
inputs_fault most n = refuse 8 (outside 1 most n)

-- 8 in a study, where a gate may have no tests, or no gate inputs: the count is not 0 to its limit
abbrev pub input_count_fault : ℕ → ℕ → ℕ
input_count_fault most n = unless_absent 0 n (inputs_fault most n)

-- 9 no component: a test of a component that is not in the study
abbrev pub no_component_fault : ℕ → ℕ → ℕ
no_component_fault components component = refuse 9 (leb components component)

-- 10 mask: 0, or with the bit of a state that the component lacks
abbrev pub mask_fault : ℕ → ℕ → ℕ
mask_fault states mask = refuse 10 (outside 1 (2 ^ states - 1) mask)

-- 11 gate ahead: a gate input that is not lower than its gate
abbrev pub ahead_fault : ℕ → ℕ → ℕ
ahead_fault gate input = refuse 11 (leb gate input)

-- 12 threshold: 0, or above the number of distinct inputs
abbrev pub threshold_fault : ℕ → ℕ → ℕ
threshold_fault inputs threshold = refuse 12 (outside 1 inputs threshold)

-- 13 no gate: the loss gate is not in the study
abbrev pub no_gate_fault : ℕ → ℕ → ℕ
no_gate_fault gates gate = refuse 13 (leb gates gate)

-- 13 in a study, where a load may have no loss gate, so that it is never lost: it has one, and that is not in the study
abbrev pub loss_gate_fault : ℕ → ℕ → ℕ
loss_gate_fault gates gate = unless_absent never gate (no_gate_fault gates gate)

-- 14 load size: customers or minutes above their limit
abbrev pub size_fault : ℕ → ℕ → ℕ
size_fault most n = refuse 14 (ltb most n)

-- 15 left over: bytes after the last load
abbrev pub left_fault : ℕ → ℕ
left_fault bytes = refuse 15 (ltb 0 bytes)

-- 16 unsound: in an opened study, a rule above is broken, the inputs of a gate are out of order, or a place that no
-- record uses holds anything but 0
abbrev pub unsound_fault : Bool → ℕ
unsound_fault sound = refuse 16 (not sound)

-- the fields of such a place, up to four of them: they hold 0 when their sum is 0
abbrev pub unused_fault : ℕ → ℕ → ℕ → ℕ → ℕ
unused_fault a b c d = refuse 16 (ltb 0 (a + b + c + d))

-- 17 no item: the study lacks the component or load that a call names
abbrev pub item_fault : ℕ → ℕ → ℕ
item_fault count item = refuse 17 (leb count item)

-- 18 no room: the buffer or slice lent is too short
abbrev pub room_fault : ℕ → ℕ → ℕ
room_fault need room = refuse 18 (ltb room need)

-- 19 no customers: the customers sum to 0
abbrev pub customers_fault : ℕ → ℕ
customers_fault sum = refuse 19 (eqb sum 0)

-- 20 node: a drawn tree asks a component that is not in the study, or one that it asks already above
abbrev pub node_fault : ℕ → ℕ → Bool → ℕ
node_fault components component asked = refuse 20 (leb components component || asked)

-- 21 bad end: the bytes of a drawn tree end inside it
abbrev pub bad_end : ℕ
bad_end = 21

-- 21 too: so many bytes follow it
abbrev pub behind_fault : ℕ → ℕ
behind_fault bytes = refuse bad_end (ltb 0 bytes)

-- 22 leaf: a class with a bit from the load count on
abbrev pub leaf_fault : ℕ → ℕ → ℕ
leaf_fault loads class = refuse 22 (ltb 0 (class / 2 ^ loads))

-- 23 too far: an exponent above the largest
abbrev pub far_fault : ℕ → ℕ
far_fault exponent = refuse 23 (ltb farthest exponent)

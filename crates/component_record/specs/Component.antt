-- Reading a component record. Bit 0: the state count. Bits 1, 2, 3: the probability of state 1, 2, 3.
use Rattle.std.specs.Prelude.{ℕ, cond, eqb}
use Rattle.rules.specs.Limits.{component_maps}
use Rattle.rules.specs.Table.{states_fault, no_state_fault, sum_fault}
use Rattle.reading.specs.Reader.{Reader, byte, word, judge, return, ◌>>=◌, ◌>>◌}
use Rattle.reading.specs.Fields.{fields_by_map}
use Rattle.study.specs.declared.Component.{Component}
use Rattle.study.specs.Absent.{absent_component}

abbrev pub with_states : ℕ → Component → Component
with_states states c = record { states = states; p1 = c.p1; p2 = c.p2; p3 = c.p3 }

-- p as the probability of a state
abbrev pub with_probability : ℕ → ℕ → Component → Component
with_probability state p c =
    record {
      states = c.states;
      p1 = cond (eqb state 1) p c.p1;
      p2 = cond (eqb state 2) p c.p2;
      p3 = cond (eqb state 3) p c.p3;
    }

unfoldable pub state_count : Component → Reader Component
state_count c = do
  states ← byte
  judge (states_fault states)
  return (with_states states c)

-- refusal 5 is judged before the field
unfoldable pub probability : ℕ → Component → Reader Component
probability state c = do
  judge (no_state_fault c.states state)
  p ← word
  return (with_probability state p c)

unfoldable pub component_field : ℕ → Component → Reader Component
component_field k c = cond (eqb k 0) (state_count c) (probability k c)

-- the sum is judged after the last field
unfoldable pub component : Reader Component
component = do
  c ← fields_by_map component_maps component_field absent_component
  judge (sum_fault c.p1 c.p2 c.p3)
  return c

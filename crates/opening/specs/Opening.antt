-- Opening a study: the three counts, the records of components, gates and loads, the end of the bytes. A study is read
-- as the bytes give it, and answered with the inputs of its gates in order.
use Rattle.std.specs.Prelude.{ℕ, ◌*◌, List, length, take, set}
use Rattle.lists.specs.Product.{product}
use Rattle.rules.specs.Limits.{most_components, most_gates, most_loads}
use Rattle.rules.specs.Table.{count_fault, width_fault, left_fault}
use Rattle.reading.specs.Reader.{Read, refused, got, Reader, byte, judge, return, repeat, ◌>>=◌, ◌>>◌}
use Rattle.component_record.specs.Component.{component}
use Rattle.gate_record.specs.Gate.{gate}
use Rattle.load_record.specs.Load.{load}
use Rattle.study.specs.declared.Component.{Component}
use Rattle.study.specs.declared.Gate.{Gate}
use Rattle.study.specs.declared.Load.{Load}
use Rattle.study.specs.declared.Study.{Study}
use Rattle.answers.specs.Answered.{answered}
use Rattle.study.specs.Joint.{states}
use Rattle.study.specs.Zero.{no_components, no_gates, no_loads, zero_study}
use Rattle.gate_order.specs.Order.{ordered}
use Rattle.std.specs.Prelude.{Err}
use Rattle.answers.specs.Answers.{StudyAnswer, finished}

-- one of the first three bytes
unfoldable pub count : ℕ → Reader ℕ
count most = do
  n ← byte
  judge (count_fault most n)
  return n

-- a component after others that have so many joint states
unfoldable pub component_after : ℕ → Reader Component
component_after joint_states = do
  c ← component
  judge (width_fault (joint_states * c.states))
  return c

-- component i; those before it have as many joint states as the product of their state counts
unfoldable pub component_record : ℕ → List Component → Reader Component
component_record i cs = component_after (product (take i (states cs)))

-- gate i; `counts` has the state count of each component
abbrev pub gate_record : List ℕ → ℕ → List Gate → Reader Gate
gate_record counts i gs = gate counts i

-- a load of a study with so many gates
abbrev pub load_record : ℕ → ℕ → List Load → Reader Load
load_record gates j ls = load gates

-- each record goes to its own place
abbrev pub placing : {A : Type 0} → (ℕ → List A → Reader A) → ℕ → List A → Reader (List A)
placing next i places = do
  a ← next i places
  return (set places i a)

-- the records of a study with these counts
unfoldable pub records : ℕ → ℕ → ℕ → Reader Study
records components gates loads = do
  cs ← repeat (placing component_record) components no_components
  gs ← repeat (placing (gate_record (take components (states cs)))) gates no_gates
  ls ← repeat (placing (load_record gates)) loads no_loads
  return (record { components = components; gates = gates; loads = loads; component = cs; gate = gs; load = ls })

-- a study as the bytes give it
unfoldable pub study : Reader Study
study = do
  components ← count most_components
  gates ← count most_gates
  loads ← count most_loads
  records components gates loads

-- a refused opening answers the number and a study of zeros
unfoldable pub refused_opening : ℕ → StudyAnswer
refused_opening n = record { outcome = Err n; study = zero_study }

-- the answer to a reading; the end is judged last, and then the inputs of each gate are put in order
unfoldable pub answer : Read Study → StudyAnswer
unfolding answered ordered
answer (refused n) = refused_opening n
answer (got t rest) = answered refused_opening (left_fault (length rest)) (record { outcome = finished; study = ordered t })

-- the study of a reading as the bytes give it, before its inputs are put in order; of zeros where the reading is
-- refused
unfoldable pub given : Read Study → Study
given (refused n) = zero_study
given (got t rest) = t

unfoldable pub as_given : List ℕ → Study
unfolding given
as_given bytes = given (study bytes)

-- what opening answers
unfoldable pub opened : List ℕ → StudyAnswer
opened bytes = answer (study bytes)

-- What code must know of a gate, a joint state and truths to read them: no rule, but places that are there.
use Rattle.std.specs.Prelude.{ℕ, ◌<◌, ◌≤◌, Bool, ◌≡◌, List, length, get_or, replicate}
use Rattle.rules.specs.Limits.{most_components, most_tests, most_gate_inputs, mask_bits}
use Rattle.joint_states.specs.JointStates.{JointState, number_of}
use Rattle.study.specs.declared.Gate.{Gate}
use Rattle.study.specs.declared.Study.{Study}
use Rattle.study.specs.Joint.{state_counts}
use Rattle.soundness.specs.Sound.{Sound}

-- the tests of a gate, in joint state x: each names a component of x, and each state is that of a bit of a mask
pub record TestsReadable (g : Gate) (x : List ℕ) : Type 0 where
  pub count : g.tests ≤ most_tests
  pub component : (j : ℕ) → j < g.tests → get_or g.component j 0 < length x
  pub state : (k : ℕ) → k < length x → get_or x k 0 < mask_bits

-- its gate inputs: each names a gate that has a truth
pub record InputsReadable (g : Gate) (truths : List Bool) : Type 0 where
  pub count : g.gates ≤ most_gate_inputs
  pub input : (j : ℕ) → j < g.gates → get_or g.input j 0 < length truths

pub record GateReadable (g : Gate) (x : List ℕ) (truths : List Bool) : Type 0 where
  pub tests : TestsReadable g x
  pub inputs : InputsReadable g truths

-- every component place up
unfoldable pub all_up : List ℕ
all_up = replicate most_components 0

-- where a class table begins: x is the first joint state of a sound study with these state counts
pub record TableBegins (t : Study) (counts x : List ℕ) : Type 0 where
  pub sound : Sound t
  pub same : counts ≡ state_counts t
  pub joint : JointState counts x
  pub first : number_of counts x ≡ 0

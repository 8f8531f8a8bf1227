-- The class of a joint state: which loads are lost in it.
use Rattle.std.specs.Prelude.{ℕ, ◌*◌, ◌^◌, Bool, false, cond, List, map, eqb, get_or}
use Rattle.lists.specs.Bits.{digit}
use Rattle.lists.specs.Counting.{sum, truth}
use Rattle.rules.specs.Limits.{most_loads, never}
use Rattle.joint_states.specs.JointStates.{joint_states}
use Rattle.study.specs.declared.Load.{Load}
use Rattle.study.specs.declared.Study.{Study}
use Rattle.study.specs.Joint.{state_counts}
use Rattle.study.specs.Zero.{zero_load}
use Rattle.fault_tree.specs.Truth.{gate_truths}

-- a load is lost when it has a loss gate and that gate is true
unfoldable pub lost : List Bool → Load → Bool
lost truths l = cond (eqb l.gate never) false (get_or truths l.gate false)

-- bit j stands when load j is lost
unfoldable pub class_by : List Bool → List Load → ℕ → ℕ
unfolding sum lost
class_by truths loads n = sum (λ (j : ℕ). truth (lost truths (get_or loads j zero_load)) * 2 ^ j) n

-- the class of a joint state
unfoldable pub class_of : Study → List ℕ → ℕ
unfolding class_by gate_truths
class_of t x = class_by (gate_truths t.gate x t.gates) t.load t.loads

-- the classes of all joint states, by their number
unfoldable pub classes : Study → List ℕ
unfolding joint_states
classes t = map (class_of t) (joint_states (state_counts t))

-- how many loads are lost in a class
unfoldable pub loads_lost : ℕ → ℕ
unfolding sum
loads_lost class = sum (digit class) most_loads

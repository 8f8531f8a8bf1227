-- What holds of the paths of any good model, in the words of demand 3.
use Rattle.std.specs.Prelude.{ℕ, ◌<◌, ◌≡◌, List, [], length, get_or}
use Rattle.joint_states.specs.JointStates.{JointState}
use Rattle.paths.specs.Words.{IsEntry, OnePath, Ascending, BlankIff}
use Rattle.model.specs.Good.{Good}
use Rattle.model.specs.Model.{Model, components, paths_of}

-- Each path is an entry over its components, and bears the class of some joint state that fits it.
abbrev pub EachIsEntry : Type 0
EachIsEntry =
    (m : Model) → Good m → (i : ℕ) → i < length (paths_of m) → IsEntry m.counts m.class (get_or (paths_of m) i [])

-- Each joint state fits exactly one path, which bears its class.
abbrev pub OnePathEach : Type 0
OnePathEach =
    (m : Model) → Good m → (x : List ℕ) → JointState m.counts x → OnePath (components m) (m.class x) x (paths_of m)

-- Paths ascend by state.
abbrev pub PathsAscend : Type 0
PathsAscend = (m : Model) → Good m → Ascending (components m) (paths_of m)

-- A path leaves a component blank exactly when its own state changes no loss there.
abbrev pub BlankExactly : Type 0
BlankExactly =
    (m : Model) → Good m → (i k : ℕ) → i < length (paths_of m) → k < components m
    → BlankIff m.counts m.class k (get_or (paths_of m) i [])

-- two models class every joint state alike
abbrev pub ClassAlike : Model → Model → Type 0
ClassAlike m n = (x : List ℕ) → JointState m.counts x → m.class x ≡ n.class x

-- Over the same state counts, paths are the same exactly when all joint states are classed alike.
pub record PathsTell : Type 0 where
  pub classes : (m n : Model) → Good m → Good n → m.counts ≡ n.counts → paths_of m ≡ paths_of n → ClassAlike m n
  pub paths : (m n : Model) → m.counts ≡ n.counts → ClassAlike m n → paths_of m ≡ paths_of n

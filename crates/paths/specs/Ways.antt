-- The rows of paths at a component in one form, for code and proofs: it has one way on where it is blank, or else one for each state.
use Rattle.std.specs.Prelude.{ℕ, Bool, true, false, List}
use Rattle.joint_states.specs.JointStates.{divided}
use Rattle.entries.specs.Entries.{blank_mark}

-- what a path's entry holds for a component that is blank, or else in state s
unfoldable pub mark : Bool → ℕ → ℕ
mark true s = blank_mark
mark false s = s

-- the number of ways on
unfoldable pub ways : Bool → ℕ → ℕ
ways true states = 1
ways false states = states

-- the rows of each way, its mark in front
unfoldable pub branches : Bool → ℕ → (ℕ → List (List ℕ)) → List (List ℕ)
unfolding mark ways divided
branches blank states rows = divided (mark blank) rows 0 (ways blank states)

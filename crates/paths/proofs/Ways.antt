-- The ways on at a component: at least one, and no more than its states; and the paths of a block by the ways at its first component.
use Prim.Native.Nat.{ℕ, ◌<◌, ◌≤◌}
use mathlib.Core.Path.{◌≡◌, refl, sym}
use mathlib.Core.Bool.{Bool, true, false}
use mathlib.Core.List.{List, ◌∷◌, map, append-nil}
use native.Mathlib.Omega.{arith}
use Rattle.lists.specs.Product.{product}
use Rattle.joint_states.specs.JointStates.{divided}
use Rattle.paths.specs.Paths.{part, is_blank, rows_at, paths}
use Rattle.paths.specs.Ways.{mark, ways, branches}

-- a mark in front of each row
abbrev pub headed : ℕ → List (List ℕ) → List (List ℕ)
headed mark rows = map (λ (row : List ℕ). mark ∷ row) rows

pub ways-some : (b : Bool) (c : ℕ) → 0 < c → 0 < ways b c
unfolding ways
ways-some true c h = omega arith
ways-some false c h = h

pub ways-most : (b : Bool) (c : ℕ) → 0 < c → ways b c ≤ c
unfolding ways
ways-most true c h = h
ways-most false c h = omega arith

-- the rows at a component are those of its ways
rows-branches : (b : Bool) (c : ℕ) (rest : ℕ → List (List ℕ)) → rows_at b c rest ≡ branches b c rest
unfolding rows_at branches divided mark ways
rows-branches true c rest = sym (append-nil (headed (mark true 0) (rest 0)))
rows-branches false c rest = refl

-- the paths of the part at state s, over the later components
abbrev pub part_paths : List ℕ → List ℕ → ℕ → List (List ℕ)
part_paths cs block s = paths cs (part (product cs) s block)

pub paths-branches : (c : ℕ) (cs block : List ℕ) → paths (c ∷ cs) block ≡ branches (is_blank c (product cs) block) c (part_paths cs block)
unfolding paths
paths-branches c cs block = rows-branches (is_blank c (product cs) block) c (part_paths cs block)

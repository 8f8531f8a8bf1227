-- Each entry of a list that is divided by states is a row of one state, with that state's mark in front.
use Prim.Native.Nat.{ℕ, zero, suc, ◌+◌, ◌<◌, ◌≤◌}
use mathlib.Core.Path.{◌≡◌, refl}
use mathlib.Core.List.{List, [], ◌∷◌}
use native.Mathlib.Nat.{not-suc-le-zero}
use native.Mathlib.Omega.{arith}
use lib.ListN.{length, get_or}
use Rattle.lists.specs.Product.{product}
use Rattle.lists.proofs.Elements.{Every, every_append, every_map}
use Rattle.joint_states.specs.JointStates.{divided}
use Rattle.paths.specs.Paths.{is_blank, paths}
use Rattle.paths.specs.Ways.{mark, ways, branches}
use Rattle.paths.specs.Blocks.{Block}
use Rattle.paths.proofs.Parts.{first_some}
use Rattle.paths.proofs.Ways.{part_paths, paths-branches, headed, ways-most}

-- the entry is the mark of a state from s on and below t, in front of a row of that state
pub record Placed (marks : ℕ → ℕ) (rows : ℕ → List (List ℕ)) (s t : ℕ) (entry : List ℕ) : Type 0 where
  pub state : ℕ
  pub from : s ≤ state
  pub below : state < t
  pub row : ℕ
  pub inside : row < length (rows state)
  pub holds : entry ≡ marks state ∷ get_or (rows state) row []

module _ (marks : ℕ → ℕ) (rows : ℕ → List (List ℕ)) where
  later : (s t : ℕ) (entry : List ℕ) → Placed marks rows (s + 1) t entry → Placed marks rows s t entry
  later s t entry p = record { state = p.state; from = omega (arith, p.from); below = p.below; row = p.row; inside = p.inside; holds = p.holds }

  pub placed : (t s n : ℕ) → s + n ≤ t → Every (Placed marks rows s t) [] (divided marks rows s n)
  unfolding divided
  placed t s zero all i h = absurd (not-suc-le-zero h)
  placed t s (suc n) all i h =
      every_append (Placed marks rows s t) [] (headed (marks s) (rows s)) (divided marks rows (s + 1) n)
      (every_map (λ (row : List ℕ). marks s ∷ row) [] [] (Placed marks rows s t) (rows s)
      (λ k less. record { state = s; from = omega arith; below = omega arith; row = k; inside = less; holds = refl }))
      (λ k less. later s t (get_or (divided marks rows (s + 1) n) k []) (placed t (s + 1) n (omega arith) k less)) i h

-- each path goes on from the part of one state of the first component
pub path-placed : (c : ℕ) (cs block : List ℕ) → Block (c ∷ cs) block
    → Every (Placed (mark (is_blank c (product cs) block)) (part_paths cs block) 0 c) [] (paths (c ∷ cs) block)
unfolding branches
path-placed c cs block b =
    let blank = is_blank c (product cs) block in
    rw (paths-branches c cs block)
    (placed (mark blank) (part_paths cs block) c 0 (ways blank c) (omega (arith, ways-most blank c (first_some b))))

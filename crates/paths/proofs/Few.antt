-- There is a path at least, and at most one for each joint state: by induction over the components, since there is a way on at each, and no
-- more ways than states.
use Prim.Native.Nat.{ℕ, zero, suc, ◌+◌, ◌*◌, ◌<◌, ◌≤◌}
use mathlib.Core.List.{List, [], ◌∷◌}
use native.Mathlib.Nat.{mul-le-mul_right}
use native.Mathlib.Omega.{arith}
use lib.ListN.{length, length-append, length-map}
use Rattle.lists.specs.Product.{product}
use Rattle.joint_states.specs.JointStates.{divided}
use Rattle.paths.specs.Paths.{part, is_blank, paths}
use Rattle.paths.specs.Ways.{mark, ways, branches}
use Rattle.paths.specs.Blocks.{Block}
use Rattle.paths.specs.Theorems.{FewPaths}
use Rattle.paths.proofs.Parts.{first_some, part-block}
use Rattle.paths.proofs.Ways.{part_paths, paths-branches, headed, ways-some, ways-most}

-- ---- rows of each state, where those of each state below `states` are some, and at most m

module _ (marks : ℕ → ℕ) (rows : ℕ → List (List ℕ)) (states : ℕ) where
  divided-some : ((k : ℕ) → k < states → 0 < length (rows k)) → (s n : ℕ) → s + n ≤ states → 0 < n → 0 < length (divided marks rows s n)
  unfolding divided
  divided-some some s zero inside h = absurd (omega arith)
  divided-some some s (suc n) inside h =
      rw (length-append (headed (marks s) (rows s)) (divided marks rows (s + 1) n), length-map (rows s) (λ (row : List ℕ). marks s ∷ row))
      (omega (arith, some s (omega arith)))

  divided-most : (m : ℕ) → ((k : ℕ) → k < states → length (rows k) ≤ m) → (s n : ℕ) → s + n ≤ states → length (divided marks rows s n) ≤ n * m
  unfolding divided
  divided-most m most s zero inside = omega arith
  divided-most m most s (suc n) inside =
      let rest = divided-most m most (s + 1) n (omega arith) in
      rw (length-append (headed (marks s) (rows s)) (divided marks rows (s + 1) n), length-map (rows s) (λ (row : List ℕ). marks s ∷ row))
      (omega (arith, most s (omega arith), rest))

-- ---- the paths

some-path : (counts block : List ℕ) → Block counts block → 0 < length (paths counts block)
unfolding paths branches
some-path [] block b = omega arith
some-path (c ∷ cs) block b =
    let blank = is_blank c (product cs) block in
    rw (paths-branches c cs block)
    (divided-some (mark blank) (part_paths cs block) c (λ k h. some-path cs (part (product cs) k block) (part-block b k h)) 0 (ways blank c)
    (omega (arith, ways-most blank c (first_some b))) (ways-some blank c (first_some b)))

most-paths : (counts block : List ℕ) → Block counts block → length (paths counts block) ≤ product counts
unfolding paths branches product
most-paths [] block b = omega arith
most-paths (c ∷ cs) block b =
    let blank = is_blank c (product cs) block in
    let inside = ways-most blank c (first_some b) in
    let all =
    divided-most (mark blank) (part_paths cs block) c (product cs) (λ k h. most-paths cs (part (product cs) k block) (part-block b k h)) 0
    (ways blank c) (omega (arith, inside)) in
    rw (paths-branches c cs block) (omega (arith, all, mul-le-mul_right (product cs) inside))

pub few-paths : FewPaths
few-paths counts block b = record { some = some-path counts block b; most = most-paths counts block b }

-- A buffer with room for any list takes that of a good model.
use Prim.Native.Nat.{ℕ, ◌≤◌}
use mathlib.Core.Path.{◌≡◌, ◌∙◌}
use mathlib.Core.List.{List}
use native.Mathlib.Omega.{arith}
use lib.ListN.{length}
use Rattle.lists.specs.Rows.{joined}
use Rattle.rules.specs.Table.{room_fault}
use Rattle.rules.proofs.Rows.{room-none}
use Rattle.answers.specs.Answered.{answered, filled}
use Rattle.answers.specs.declared.counts.PathCount.{PathCount}
use Rattle.answers.proofs.Answered.{answered-done, filled-done}
use Rattle.entries.specs.Entries.{list_bytes}
use Rattle.model.specs.Listed.{Listed as Holds}
use Rattle.model.specs.Good.{Good}
use Rattle.model.specs.Model.{Model, paths_of}
use Rattle.model.proofs.Listing.{list-most, listed}
use Rattle.std.specs.Prelude.{Ok, Err}
use Rattle.answers.specs.Answers.{Listing}

module _ (m : Model) (good : Good m) (d : List ℕ) {answer : Listing} (room : list_bytes ≤ length d)
    (is-answer : answer ≡ answered Err (room_fault (length (joined (paths_of m))) (length d)) (Ok (record { paths = length (paths_of m) }))) where
  fits : room_fault (length (joined (paths_of m))) (length d) ≡ 0
  fits = room-none (length (joined (paths_of m))) (length d) (omega (arith, list-most m good, room))

  all : answer ≡ Ok (record { paths = length (paths_of m) })
  all = is-answer ∙ answered-done Err (room_fault (length (joined (paths_of m))) (length d)) (Ok (record { paths = length (paths_of m) })) fits

  pub list_held : {list : List ℕ} {count : PathCount} → list ≡ filled (room_fault (length (joined (paths_of m))) (length d)) (joined (paths_of m)) d → answer ≡ Ok count
      → Holds m count.paths list
  list_held {list} {count} is-list e =
      let number : count.paths ≡ length (paths_of m) = cc (all) in
      listed m good d list number room (is-list ∙ filled-done (room_fault (length (joined (paths_of m))) (length d)) (joined (paths_of m)) d fits)

  -- it is not refused
  pub list-taken : {n : ℕ} → answer ≡ Err n → ⊥
  list-taken {n} e = let z : ◌≡◌ {A = ℕ} 0 1 = cc (all) in omega arith

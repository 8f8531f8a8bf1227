-- What the list of a block's paths needs: an entry for each path, and no more than the longest list.
use Prim.Native.Nat.{ℕ, ◌*◌, ◌≤◌}
use mathlib.Core.Path.{◌≡◌, sym, ap, ◌∙◌}
use mathlib.Core.List.{List}
use native.Mathlib.Nat.{mul-le-mul}
use native.Mathlib.Omega.{arith}
use lib.ListN.{length}
use Rattle.lists.specs.Rows.{joined}
use Rattle.lists.proofs.Joined.{joined-long}
use Rattle.rules.specs.Limits.{most_components, most_joint_states}
use Rattle.rules.specs.Table.{room_fault}
use Rattle.entries.specs.Entries.{entry_bytes, list_bytes}
use Rattle.paths.specs.Blocks.{Listable}
use Rattle.paths.specs.Paths.{paths}
use Rattle.paths.proofs.Entries.{each-entry}
use Rattle.paths.proofs.Few.{few-paths}

module _ {counts block : List ℕ} (l : Listable counts block) where
  pub need-is : length (joined (paths counts block)) ≡ length (paths counts block) * entry_bytes (length counts)
  need-is = joined-long (entry_bytes (length counts)) (paths counts block) (λ i h. (each-entry counts block l.whole i h).long)

  pub paths-few : length (paths counts block) ≤ most_joint_states
  paths-few = omega (arith, (few-paths counts block l.whole).most, l.whole.long, l.small)

  pub need-most : length (joined (paths counts block)) ≤ list_bytes
  need-most =
      let width : entry_bytes (length counts) ≤ entry_bytes most_components = omega (arith, l.components) in
      let most : length (paths counts block) * entry_bytes (length counts) ≤ list_bytes = mul-le-mul paths-few width in
      omega (arith, need-is, most)

  -- the breach of the room that is lent, as it is found from the count
  pub room-is : {count need fault : ℕ} (room : ℕ) → count ≡ length (paths counts block) → need ≡ count * entry_bytes (length counts)
      → fault ≡ room_fault need room → fault ≡ room_fault (length (joined (paths counts block))) room
  room-is {count} {need} {fault} room counted needed judged =
      judged ∙ ap (λ (n : ℕ). room_fault n room) (needed ∙ ap (λ (k : ℕ). k * entry_bytes (length counts)) counted ∙ sym need-is)

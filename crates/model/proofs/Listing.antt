-- The list of a good model: what it needs, that the longest list has room for it, and that it stands in a buffer entry by entry.
use Prim.Native.Nat.{ℕ, ◌*◌, ◌≤◌}
use mathlib.Core.Path.{◌≡◌}
use mathlib.Core.List.{List, []}
use native.Mathlib.Omega.{arith}
use lib.ListN.{length}
use Rattle.lists.specs.Rows.{put, joined}
use Rattle.lists.proofs.Elements.{Every}
use Rattle.lists.proofs.Puts.{put-size}
use Rattle.rules.specs.Limits.{most_joint_states}
use Rattle.entries.specs.Entries.{entry_bytes, list_bytes}
use Rattle.entries.proofs.Entries.{entries-put}
use Rattle.paths.proofs.Entries.{each-entry}
use Rattle.paths.proofs.Need.{need-is, need-most, paths-few as block-paths-few}
use Rattle.model.specs.Good.{Good}
use Rattle.model.specs.Listed.{Listed}
use Rattle.model.specs.Model.{Model, components, classes_of, paths_of}
use Rattle.model.proofs.Classes.{good-block, good-listable}

module _ (m : Model) (good : Good m) where
  pub entries-wide : Every (λ (entry : List ℕ). length entry ≡ entry_bytes (components m)) [] (paths_of m)
  unfolding paths_of
  entries-wide i h = (each-entry m.counts (classes_of m) (good-block m good) i h).long

  -- an entry for each path
  pub list-need : length (joined (paths_of m)) ≡ length (paths_of m) * entry_bytes (components m)
  unfolding paths_of
  list-need = need-is (good-listable m good)

  pub paths-few : length (paths_of m) ≤ most_joint_states
  unfolding paths_of
  paths-few = block-paths-few (good-listable m good)

  pub list-most : length (joined (paths_of m)) ≤ list_bytes
  unfolding paths_of
  list-most = need-most (good-listable m good)

  pub listed : {number : ℕ} (d list : List ℕ) → number ≡ length (paths_of m) → list_bytes ≤ length d → list ≡ put d 0 (joined (paths_of m)) → Listed m number list
  listed {number} d list counted room e =
      let size = put-size d list 0 (joined (paths_of m)) (omega (arith, list-most, room)) e in
      record {
        good = good;
        number = counted;
        room = record { components = good.counts.few; few = omega (arith, counted, paths-few); long = rw counted (omega (arith, list-need, size, list-most, room)) };
        entries = rw (e, counted) (entries-put (components m) (paths_of m) d entries-wide);
      }

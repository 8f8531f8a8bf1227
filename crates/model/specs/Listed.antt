-- The list of a good model's paths at the front of a buffer.
use Rattle.std.specs.Prelude.{ℕ, ◌≡◌, List, length}
use Rattle.entries.specs.Entries.{entries_of}
use Rattle.entries.specs.Lists.{PathList}
use Rattle.model.specs.Good.{Good}
use Rattle.model.specs.Model.{Model, components, paths_of}

pub record Listed (m : Model) (paths : ℕ) (list : List ℕ) : Type 0 where
  pub good : Good m
  pub number : paths ≡ length (paths_of m)
  pub room : PathList (components m) paths list
  pub entries : entries_of (components m) paths list ≡ paths_of m

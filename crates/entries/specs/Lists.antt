-- What the code must know of a list for its reads to stay inside it.
use Rattle.std.specs.Prelude.{ℕ, ◌+◌, ◌*◌, ◌≤◌, List, length}
use Rattle.rules.specs.Limits.{most_components, most_joint_states}
use Rattle.entries.specs.Entries.{entry_bytes}

-- entry k stands inside the list
pub record EntryIn (list : List ℕ) (n k : ℕ) : Type 0 where
  pub inside : k * entry_bytes n + entry_bytes n ≤ length list

-- so many entries of n components stand at its front
pub record PathList (n paths : ℕ) (list : List ℕ) : Type 0 where
  pub components : n ≤ most_components
  pub few : paths ≤ most_joint_states
  pub long : paths * entry_bytes n ≤ length list

-- The bytes of a list of paths.
use Rattle.std.specs.Prelude.{ℕ, List, ◌++◌, map}
use Rattle.lists.specs.Rows.{joined}

-- the entries, each behind the same marks, one behind the other
unfoldable pub entries_behind : List ℕ → List (List ℕ) → List ℕ
unfolding joined
entries_behind front entries = joined (map (λ (entry : List ℕ). front ++ entry) entries)

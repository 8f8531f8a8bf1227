-- The entry of a path: a mark for each component, its state or 255 where it is blank, then the class of the path. The only place that knows how
-- many bytes a class takes and where it stands.
use Rattle.std.specs.Prelude.{ℕ, ◌+◌, ◌*◌, ◌^◌, List, [], ◌∷◌, ◌++◌, get_or, drop}
use Rattle.lists.specs.Rows.{row_at}
use Rattle.lists.specs.Tabulate.{tabulate}
use Rattle.rules.specs.Limits.{most_components, most_loads, most_joint_states}

-- what stands in an entry for a blank component
abbrev pub blank_mark : ℕ
blank_mark = 255

-- a class has a bit for each load: as many classes as there are sets of loads
abbrev pub class_places : ℕ
class_places = 2 ^ most_loads

-- the bytes of a class, lowest first
unfoldable pub class_code : ℕ → List ℕ
class_code class = class ∷ []

-- as many whichever class it is
abbrev pub class_bytes : ℕ
class_bytes = 1

-- the class whose bytes stand at the front of a row
unfoldable pub class_read : List ℕ → ℕ
class_read bytes = get_or bytes 0 0

-- every byte is below
abbrev pub byte_values : ℕ
byte_values = 256

-- the bytes of an entry of n components
abbrev pub entry_bytes : ℕ → ℕ
entry_bytes n = n + class_bytes

-- the entry with these marks and this class
unfoldable pub entry : List ℕ → ℕ → List ℕ
unfolding class_code
entry marks class = marks ++ class_code class

-- document 01's "bears": the class that ends an entry of n components
unfoldable pub class_borne : ℕ → List ℕ → ℕ
unfolding class_read
class_borne n entry = class_read (drop n entry)

-- entry k of a list
abbrev pub entry_at : ℕ → List ℕ → ℕ → List ℕ
entry_at n list k = row_at (entry_bytes n) list k

-- the entries of a list of so many paths
unfoldable pub entries_of : ℕ → ℕ → List ℕ → List (List ℕ)
unfolding tabulate
entries_of n paths list = tabulate (entry_at n list) paths

-- room for the longest list: an entry of all components for each joint state
abbrev pub list_bytes : ℕ
list_bytes = most_joint_states * entry_bytes most_components

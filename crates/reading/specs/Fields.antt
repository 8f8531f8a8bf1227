-- Reading a record: a map of bits, then only the fields whose bit stands.
use Rattle.std.specs.Prelude.{ℕ, ◌<◌, ◌≤◌, cond, eqb}
use Rattle.lists.specs.Bits.{digit, bit}
use Rattle.rules.specs.Table.{stray_fault}
use Rattle.reading.specs.Reader.{Reader, byte, judge, return, repeat, ◌>>=◌, ◌>>◌}

-- the bits of a map byte
abbrev pub map_bits : ℕ
map_bits = 8

-- bit k of a map, from which on so many fields are left
pub record BitLeft (map left k : ℕ) : Type 0 where
  pub in_map : k < map_bits
  pub counted : digit map k ≤ left

-- the field of bit k is read where the bit stands, and otherwise keeps its absent value
abbrev pub field_at : {A : Type 0} → (ℕ → A → Reader A) → ℕ → ℕ → A → Reader A
field_at field map k a = cond (bit map k) (field k a) (return a)

-- the last field is read where one is left
abbrev pub where_left : {A : Type 0} → ℕ → (A → Reader A) → A → Reader A
where_left left field a = cond (eqb left 1) (field a) (return a)

-- the fields whose bit stands, lowest bit first
abbrev pub fields : {A : Type 0} → (ℕ → A → Reader A) → ℕ → A → Reader A
fields field map absent = repeat (field_at field map) map_bits absent

-- a map with no stray bit
unfoldable pub map_byte : ℕ → Reader ℕ
map_byte maps = do
  map ← byte
  judge (stray_fault maps map)
  return map

-- a record: its map, then its fields
abbrev pub fields_by_map : {A : Type 0} → ℕ → (ℕ → A → Reader A) → A → Reader A
fields_by_map maps field absent = do
  map ← map_byte maps
  fields field map absent

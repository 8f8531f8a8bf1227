-- Places that are cleared before use.
use Rattle.std.specs.Prelude.{ℕ, ◌≡◌, List, length, replicate}

-- so many places, each of which holds 0
unfoldable pub cleared : ℕ → List ℕ
cleared places = replicate places 0

-- a row is such; how long it is goes without opening it
pub record Cleared (places : ℕ) (row : List ℕ) : Type 0 where
  pub zeros : row ≡ cleared places
  pub long : places ≡ length row

-- Bounds in units for the exponential of minus an exponent, in the form in which they multiply.
use Prim.Native.Nat.{ℕ, ◌+◌, ◌*◌, ◌^◌, ◌<◌, ◌≤◌}
use Rattle.units.specs.One.{one}
use Rattle.exponential.specs.Series.{whole, partial}
use Rattle.units.specs.declared.bounds.Enclosure.{Enclosure}

-- a lower bound times any partial sum is at most one
pub record Below (x lower : ℕ) : Type 0 where
  pub each : (n : ℕ) → lower * partial x n ≤ one * whole n

-- an upper bound times each partial sum is at least one but for a rest, which `whole n` outgrows
pub record Above (x upper : ℕ) : Type 0 where
  pub rest : ℕ
  pub each : (n : ℕ) → one * whole n ≤ upper * partial x n + rest * (x + 1) ^ n

-- both, and by how many units they differ at most
pub record Enclosed (x gap : ℕ) (b : Enclosure) : Type 0 where
  pub below : Below x b.lower
  pub above : Above x b.upper
  pub ordered : b.lower ≤ b.upper
  pub most : b.upper ≤ one
  pub near : b.upper ≤ b.lower + gap

-- a factor that was rounded down: it is a lower bound, and a unit more an upper one
pub record Factor (x factor : ℕ) : Type 0 where
  pub below : Below x factor
  pub above : Above x (factor + 1)
  pub most : factor < one

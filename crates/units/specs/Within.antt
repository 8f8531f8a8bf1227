-- Two bounds in units that enclose an exact probability x / w, written without division.
use Rattle.std.specs.Prelude.{ℕ, ◌+◌, ◌*◌, ◌≤◌}
use Rattle.units.specs.One.{one}

-- lower and upper enclose one times x / w, and neither is farther from it than so many units
pub record Within (lower upper far x w : ℕ) : Type 0 where
  pub below : lower * w ≤ one * x
  pub above : one * x ≤ upper * w
  pub near_below : one * x ≤ (lower + far) * w
  pub near_above : upper * w ≤ one * x + far * w

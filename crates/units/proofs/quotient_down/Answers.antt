-- `units::quotient_down` meets its contract: the code divides as the definition does.
use mathlib.Core.Path.{refl}
use Rattle.units.specs.Rounding.{quotient_down}
use Rattle.units.proofs.quotient_down.Goals as goal

pub returns : goal.returns
unfolding quotient_down
returns c =
    refl

-- `entries::class::write_class` meets its contract: its bytes stand at the place, and nothing else changes.
use native.Mathlib.Omega.{arith}
use Rattle.entries.proofs.ClassBytes.{code-long, code-written}
use Rattle.entries.proofs.class.write_class.Goals as goal

pub bounds-out-at : goal.bounds-out-at
bounds-out-at c =
    omega (arith, c.requires.fits, code-long c.args.class)

pub returns : goal.returns
returns c =
    code-written _ _ _ c.requires

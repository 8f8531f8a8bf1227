-- `units::scale` meets its contract: a product of two numbers of at most one fits, and so does what rounding adds.
use Rattle.std.proofs.Common.{◌*◌, ◌≤◌, refl, arith}
use Rattle.std.proofs.Math.Nat.{mul-le-mul}
use Rattle.units.specs.One.{one}
use Rattle.units.specs.Rounding.{scale}
use Rattle.units.proofs.scale.Goals as goal

pub overflow_mul-result : goal.overflow_mul-result
overflow_mul-result c =
    let most : c.args.a * c.args.p ≤ one * one = mul-le-mul c.requires.units c.requires.probability in record { fits = omega arith }

pub overflow_add-result : goal.overflow_add-result
overflow_add-result c =
    let most : c.args.a * c.args.p ≤ one * one = mul-le-mul c.requires.units c.requires.probability in record { fits = omega arith }

pub returns : goal.returns
unfolding scale
returns c =
    let most : c.args.a * c.args.p ≤ one * one = mul-le-mul c.requires.units c.requires.probability in
    rw c.from.ensures (record { scaled = refl; most = omega arith })

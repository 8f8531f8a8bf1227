-- `units::quotient_up` meets its contract: the quotient and one more where something remains is the definition's.
use Rattle.std.proofs.Common.{◌∙◌}
use Rattle.units.proofs.Quotients.{quotient-more}
use Rattle.units.proofs.quotient_up.Goals as goal

pub returns : goal.returns
returns c = c.div_ceil.ensures ∙ quotient-more c.args.a c.args.b c.requires

-- `probability::path::path_bound` meets its contract: a component more brings its factor, and behind the last one all have.
use Rattle.std.proofs.Common.{◌<◌, ◌≡◌, arith}
use Rattle.std.proofs.Math.Seq.{length-take-le}
use Rattle.std.proofs.lemmas.List.{get_or-take}
use Rattle.probability.proofs.Factors.{factors-start, factors-more}
use Rattle.probability.proofs.path.path_bound.Goals as goal

pub loop-i-init : goal.loop-i-init
loop-i-init c = rw c.from-bound.ensures factors-start

pub loop-i-preserved : goal.loop-i-preserved
loop-i-preserved c =
    let entry = c.args.entry.now in
    let inside : c.loop-i.i < c.args.n = omega (arith, length-take-le c.args.n entry c.requires.n_in_bounds) in
    let made = rw (get_or-take c.args.n entry c.loop-i.i 0 inside) at c.factored-bound.ensures.value in
    factors-more c.loop-i.invariant (omega arith) made c.factored-bound.ensures.upper_bound

pub returns : goal.returns
returns c =
    let all : c.loop-i.i ≡ c.args.n = omega (arith, length-take-le c.args.n c.args.entry.now c.requires.n_in_bounds) in
    rw all at c.loop-i.invariant

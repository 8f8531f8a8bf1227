-- `exponential::survival` meets its contract. Before each turn of the loop, going on from there gives the product of all factors (`Going`).
use Rattle.std.proofs.Common.{◌≡◌, ◌+◌, ◌/◌, ◌%◌, ◌<◌, get_or, drop, refl, sym, ap, ◌∙◌, arith}
use Rattle.exponential.specs.Worked.{powers, factors, times, times_each, survival_of}
use Rattle.exponential.proofs.Along.{turn, all_done}
use Rattle.exponential.proofs.survival.Goals as goal

pub loop-factor-preserved : goal.loop-factor-preserved
unfolding factors
loop-factor-preserved c =
    let begun = c.loop-factor in
    let less : begun.factor-index < powers = omega arith in
    let next : c.times-b.result ≡ times (begun.bits % 2) (get_or factors begun.factor-index 0) begun.b = c.times-b.ensures.product in
    let rest = ap (times_each (begun.bits / 2) (drop (begun.factor-index + 1) factors)) next in
    record {
      within = omega (arith, less);
      gives = rest ∙ sym (turn begun.bits begun.b begun.factor-index less) ∙ begun.invariant.gives;
      units = c.times-b.ensures.units;
    }

pub returns-clause-pair : goal.returns-clause-pair
unfolding survival_of
returns-clause-pair c =
    let end = c.loop-factor in
    let all : end.factor-index ≡ powers = omega arith in
    let product = sym (all_done end.bits end.b) ∙ rw all at end.invariant.gives in
    rw (c.raise.ensures.raised, product) refl

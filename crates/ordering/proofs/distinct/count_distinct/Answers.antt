-- `ordering::distinct::count_distinct` meets its contract. The loop goes along the row (`Along`), with the rank of the input before each place in hand.
use Rattle.std.proofs.Common.{◌≡◌, ◌+◌, ◌-◌, ◌<◌, length, sym, ◌∙◌, eqb-true, arith}
use Rattle.std.proofs.lemmas.Bool.Decides.{nat_tests}
use Rattle.ordering.proofs.Along.{along-none, along-fell, along-more, along-done}
use Rattle.ordering.proofs.distinct.count_distinct.Goals as goal

pub returns-then-is_empty : goal.returns-then-is_empty
returns-then-is_empty c = along-none _ _ (eqb-true _ _ (sym c.is_empty.ensures ∙ c.if-is_empty.true))

pub returns-then-here-before : goal.returns-then-here-before
returns-then-here-before c =
    along-fell _ _ c.requires.rows (λ k. (c.type_inv.mask k).fits) c.loop-at.invariant.0 (omega arith) c.loop-at-test.true
    (omega (arith, c.rank-here.ensures, c.loop-at.invariant.1, c.if-here-before.true))

pub loop-at-preserved : goal.loop-at-preserved
loop-at-preserved c =
    let next : c.loop-at.at + 1 - 1 ≡ c.loop-at.at = omega arith in (
      along-more _ _ c.requires.rows (λ k. (c.type_inv.mask k).fits) c.loop-at.invariant.0 (omega arith) c.loop-at-test.true _ _ (omega arith)
          (rw (← c.rank-here.ensures, ← c.loop-at.invariant.1) c.from-many.ensures)
          (omega (arith, c.rank-here.ensures, c.loop-at.invariant.1, c.if-here-before.false)),
      rw next c.rank-here.ensures,
    )

pub returns : goal.returns
returns c =
    let some : 0 < length c.args.number.now = grind (arith, nat_tests) in
    along-done _ _ c.requires.rows (λ k. (c.type_inv.mask k).fits) c.loop-at.invariant.0 (omega arith)

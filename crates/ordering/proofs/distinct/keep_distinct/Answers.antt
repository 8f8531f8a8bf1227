-- `ordering::distinct::keep_distinct` meets its contract. Those that count from a place on are still to be put at the front (`Thinning`).
use Rattle.std.proofs.Common.{ℕ, ◌<◌, get_or, List, sym, subst, ◌∙◌, arith, rules}
use Rattle.ordering.specs.Thinning.{Fronted}
use Rattle.ordering.specs.Inputs.{Input, mask_values}
use Rattle.ordering.proofs.Thinned.{thinning-start, thinning-again, thinning-more, thinning-done, thinned-distinct}
use Rattle.ordering.proofs.distinct.keep_distinct.Goals as goal
use Rattle.ordering.proofs.distinct.keep_distinct.Goals.{then-not-stands_next, else-not-stands_next}

pub loop-at-init : goal.loop-at-init
loop-at-init c = thinning-start c.requires

pub loop-at-preserved : goal.loop-at-preserved
loop-at-preserved c =
    let thinning = c.loop-at.invariant in
    let tested = sym c.stands_next.ensures in
    elim c.if-not-stands_next.branch [
      | then-not-stands_next w ↦ rw (w.number-is, w.mask-is, w.kept-is) (thinning-more thinning (omega arith) (tested ∙ w.if-not-stands_next.true))
      | else-not-stands_next w ↦ rw (w.number-is, w.mask-is, w.kept-is) (thinning-again thinning (omega arith) (tested ∙ w.if-not-stands_next.false))
    ]

pub returns-clause-kept : goal.returns-clause-kept
returns-clause-kept c =
    let last = c.loop-at in
    let number = c.args.number.now in
    let mask = c.args.mask.now in
    let bytes : (k : ℕ) → get_or mask k 0 < mask_values = λ k. search rules in
    let thins = thinning-done last.invariant (omega arith) in
    λ up. subst (λ (row : List Input). Fronted number mask row last.number last.mask last.kept)
    (thinned-distinct number mask c.requires bytes up) thins

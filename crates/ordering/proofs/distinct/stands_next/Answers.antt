-- `ordering::distinct::stands_next` meets its contract: where there is an input behind the place, the two are compared.
use Rattle.std.proofs.Common.{sym, ◌∙◌, add-one, arith}
use borrow.Author.Tests.{le-ltb}
use Rattle.ordering.proofs.Pairs.{paired_long}
use Rattle.ordering.proofs.Thinned.{next-short, next-told}
use Rattle.ordering.proofs.distinct.stands_next.Goals as goal

pub returns-then-at-number : goal.returns-then-at-number
returns-then-at-number c =
    c.eq.ensures ∙ rw add-one (sym (next-told c.args.number.now c.args.mask.now c.args.at c.requires.rows (omega arith)))

pub returns-else-at-number : goal.returns-else-at-number
returns-else-at-number c =
    le-ltb _ _ c.if-at-number.false
    ∙ sym (next-short _ _ c.args.at (omega (arith, paired_long c.args.number.now c.args.mask.now c.requires.rows)))

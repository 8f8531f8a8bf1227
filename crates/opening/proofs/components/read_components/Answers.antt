-- `opening::components::read_components` meets its contract: the turns read what the definition repeats, up to the first that is refused.
use Rattle.std.proofs.Common.{◌≡◌, ℕ, ◌*◌, ◌<◌, ◌∙◌, refl, sym, ap, length, arith, rules}
use lib.ListN.{length-set}
use Rattle.lists.specs.Product.{product}
use Rattle.rules.specs.Refusals.{row_of}
use Rattle.reading.specs.Reader.{refused, repeat}
use Rattle.reading.proofs.Repeats.{repeat-start, repeat-done}
use Rattle.opening.specs.Opening.{component_record, placing}
use Rattle.opening.proofs.Places.{placed, place-refused, joint-placed}
use Rattle.opening.proofs.components.read_components.Goals as goal

pub loop-i-init : goal.loop-i-init
unfolding product
loop-i-init c = record { left = repeat-start; counted = refl; few = omega arith; long = c.told-component }

pub returns-in_err-c : goal.returns-in_err-c
unfolding component_record
returns-in_err-c c =
    let inside : c.loop-i.i < c.args.n = omega arith in
    let whole : refused (row_of c.in_err-c.field-0.0) ≡ repeat (placing component_record) c.args.n c.args.component.now c.args.bytes.now.rest.now
    = place-refused component_record c.loop-i.invariant.left inside (rw c.loop-i.invariant.counted at c.in_err-c.ensures.reads) in
    search rules

pub loop-i-preserved : goal.loop-i-preserved
unfolding component_record
loop-i-preserved c =
    let loop = c.loop-i in
    let new = c.in_ok-c.c in
    let inside : loop.i < length loop.component = omega (arith, loop.invariant.long) in
    record {
      left = placed component_record loop.invariant.left (omega arith) (rw loop.invariant.counted at c.in_ok-c.ensures.reads);
      counted = rw c.from-joint.ensures (ap (λ (j : ℕ). j * new.states) loop.invariant.counted ∙ sym (joint-placed loop.component loop.i new inside));
      few = rw c.from-joint.ensures c.in_ok-c.ensures.kept;
      long = length-set loop.component loop.i new ∙ loop.invariant.long;
    }

pub returns : goal.returns
returns c = repeat-done c.loop-i.invariant.left (omega arith)

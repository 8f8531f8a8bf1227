-- `gate_order::front::keep_front` meets its contract: the front parts of the places are the inputs (`Fronts`), and come back as their distinct ones.
use Rattle.std.proofs.Common.{ℕ, min, length, refl, sym, ap, ◌≡◌, ◌∙◌}
use Rattle.gate_order.proofs.Fronts.{tests-front, distinct-front}
use Rattle.gate_order.proofs.front.keep_front.Goals as goal

pub returns-clause-kept : goal.returns-clause-kept
returns-clause-kept c =
    let number = c.args.number.now in
    let mask = c.args.mask.now in
    let within : c.min-n.result ≡ min c.args.count (length number) = c.min-n.ensures ∙ ap (λ (n : ℕ). min n (length number)) c.from.ensures in
    let same = tests-front _ _ _ within number mask refl (sym c.requires) in
    λ up. distinct-front _ _ _ within number mask _ _ _ refl (sym c.requires) same _ (c.keep_distinct.ensures.kept (rw same up))

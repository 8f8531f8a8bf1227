-- `gate_order::front::order_front` meets its contract: the front parts of the places are the inputs (`Fronts`), and come back sorted.
use Rattle.std.proofs.Common.{ℕ, min, length, refl, sym, ap, ◌≡◌, ◌∙◌}
use Rattle.gate_order.proofs.Fronts.{tests-front, sorted_front}
use Rattle.gate_order.proofs.front.order_front.Goals as goal

pub returns : goal.returns
returns c =
    let number = c.args.number.now in
    let mask = c.args.mask.now in
    let long' = sym c.requires.rows in
    let within : c.min-n.result ≡ min c.args.count (length number) = c.min-n.ensures ∙ ap (λ (n : ℕ). min n (length number)) c.from.ensures in
    let same = tests-front _ _ _ within number mask refl long' in
    let front = sorted_front _ _ _ within number mask _ _ _ refl long' same c.put_in_order.ensures.row in
    record { number = front.in_numbers; mask = front.in_masks; many = rw same at c.put_in_order.ensures.many }

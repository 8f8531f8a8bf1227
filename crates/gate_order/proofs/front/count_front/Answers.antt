-- `gate_order::front::count_front` meets its contract: the front parts of the places are the inputs (`Fronts`), and no count of them is the refusal.
use Rattle.std.proofs.Common.{◌≡◌, ℕ, min, Bool, true, false, cond, length, Some, None, IfOk, ok_or, refl, sym, ap, ◌∙◌}
use Rattle.rules.specs.declared.refusal.Refusal.TheVariants.{Unsound}
use Rattle.rules.specs.Breach.{refuse}
use Rattle.rules.specs.Refusals.{breach_of}
use Rattle.rules.specs.Table.{unsound_fault}
use Rattle.gate_order.proofs.Fronts.{tests-front}
use Rattle.gate_order.proofs.front.count_front.Goals as goal

-- a count of m where a row is in order, and otherwise the refusal
refused : (up : Bool) (m : ℕ) → breach_of (ok_or (cond up (Some m) None) Unsound) ≡ unsound_fault up
unfolding refuse
refused true m = refl
refused false m = refl

many : (up : Bool) (m : ℕ) → IfOk (ok_or (cond up (Some m) None) Unsound) (λ n. n ≡ m)
many true m = refl
many false m = tt

pub returns : goal.returns
returns c =
    let number = c.args.number.now in
    let within : c.min-n.result ≡ min c.args.count (length number) = c.min-n.ensures ∙ ap (λ (n : ℕ). min n (length number)) c.from.ensures in
    let seen = rw (tests-front _ _ _ within number c.args.mask.now refl (sym c.requires.rows)) at c.count_distinct.ensures in
    rw (c.ok_or.ensures.value, seen) (record { order = refused _ _; many = many _ _ })

-- `indices::sums::sums_of` meets its contract: each turn adds the load that comes next, and none is left where either list ends.
use Rattle.std.proofs.Common.{rules, ℕ, ◌≡◌, ◌≤◌, arith, length, length-append, length-drop, ap, inl, inr}
use Rattle.study.specs.Zero.{zero_load}
use Rattle.indices.proofs.Carried.{carried-start, carried-fits, carried-more, carried-done}
use Rattle.indices.proofs.ListSum.{next-at}
use Rattle.indices.proofs.sums.sums_of.Goals as goal

pub loop-loss-init : goal.loop-loss-init
loop-loss-init c =
    let zero = c.default-sums.ensures in
    record {
      can_next = search rules;
      finite = search rules;
      losses_left = search rules;
      loads_left = search rules;
      carried = carried-start c.requires.sizes c.requires.at_most_one zero.0 zero.1.0 zero.1.1;
    }

pub add-requires : goal.add-requires
add-requires c =
    let kept = c.loop-loss.invariant in
    let loss = next-at 0 c.args.losses.now (length c.loop-loss.yielded) kept.losses_left c.in-Some.ensures.steps.0 in
    let load = next-at zero_load c.args.loads.now (length c.loop-loss.yielded) kept.loads_left c.in-Some.ensures.steps.1 in
    rw (loss.is, load.is) (carried-fits kept.carried load.inside)

pub loop-loss-preserved : goal.loop-loss-preserved
loop-loss-preserved c =
    let kept = c.loop-loss.invariant in
    let loss = next-at 0 c.args.losses.now (length c.loop-loss.yielded) kept.losses_left c.in-Some.ensures.steps.0 in
    let load = next-at zero_load c.args.loads.now (length c.loop-loss.yielded) kept.loads_left c.in-Some.ensures.steps.1 in
    record {
      can_next = search rules;
      finite = search rules;
      losses_left = simp length-append loss.behind;
      loads_left = simp length-append load.behind;
      carried = simp length-append (rw (c.add.ensures, loss.is, load.is) (carried-more kept.carried load.inside));
    }

pub returns : goal.returns
returns c =
    let kept = c.loop-loss.invariant in
    let long : length c.args.losses.now ≡ 8 = search rules in
    let j : ℕ = length c.loop-loss.yielded in
    let all : length c.args.loads.now ≤ j =
    elim c.in-None.ensures.steps [
      | inl none ↦ omega (arith, long, ap length kept.losses_left, length-drop j c.args.losses.now, none.1.0)
      | inr none ↦ omega (arith, ap length kept.loads_left, length-drop j c.args.loads.now, none.1.0)
    ]
    in
    carried-done kept.carried all

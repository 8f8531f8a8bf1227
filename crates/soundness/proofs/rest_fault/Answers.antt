-- `soundness::rest_fault` meets its contract: the state counts are those of the components, which are twelve at most, of four states at most.
use Rattle.std.proofs.Common.{◌≡◌, ◌≤◌, length, sym, arith, rules}
use Rattle.std.proofs.Math.ListN.{length-take}
use Rattle.std.proofs.Math.Seq.{length-take-le}
use Rattle.rules.specs.Limits.{most_components}
use Rattle.soundness.proofs.Front.{components-most, counts-most}
use Rattle.soundness.proofs.rest_fault.Goals as goal
use Rattle.soundness.proofs.rest_fault.Goals.{After-from}

few : (c : After-from) → c.from.result ≤ length c.state_counts-all.result
few c =
    let places : length c.state_counts-all.result ≡ most_components = search rules in
    omega (arith, c.from.ensures, components-most c.args.t.now c.requires)

pub slice_bounds-all-end : goal.slice_bounds-all-end
slice_bounds-all-end c = few c

pub slice_bounds-counts-end : goal.slice_bounds-counts-end
slice_bounds-counts-end c =
    sym (length-take-le _ c.state_counts-all.result (few (goal.at.slice_bounds-counts-end c).After-from))

pub joint_states-requires-clause-small : goal.joint_states-requires-clause-small
joint_states-requires-clause-small c k inside =
    rw (c.from.ensures, c.state_counts-all.ensures)
    (counts-most c.args.t.now c.requires k (omega (arith, length-take c.from.result c.state_counts-all.result, c.from.ensures)))

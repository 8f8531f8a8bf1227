-- `meaning::drawn::put_drawn` meets its contract: the tree fills a block of the study's joint states, which is the front of the table.
use Rattle.std.proofs.Common.{ℕ, ◌≡◌, ◌≤◌, sym, ap, ◌∙◌, List, length, take, Result, Ok, Err, IfOk, rules}
use lib.Seq.{length-take-le}
use Rattle.rules.specs.declared.refusal.Refusal.{Refusal}
use Rattle.rules.specs.Limits.{most_components}
use Rattle.rules.specs.Refusals.{breach_of}
use Rattle.rules.proofs.Judged.{some_row}
use Rattle.soundness.proofs.Ranges.{components-most, loads-most, counts-small}
use Rattle.drawn_tree.specs.Drawn.{drawn_fault}
use Rattle.meaning.proofs.TreeFront.{Front, front-inside, front-block, front-put}
use Rattle.meaning.proofs.drawn.put_drawn.Goals as goal
use Rattle.meaning.proofs.drawn.put_drawn.Goals.{After-state_counts-all, After-joint_states-joint}

kept : {P : Type 0} (drawn : Result (Unit {0}) Refusal) → IfOk drawn (λ u. P) → breach_of drawn ≡ 0 → P
kept (Ok u) holds none = holds
kept (Err refusal) holds none = absurd (some_row refusal none)

-- the state counts of the components in use
inside : (c : After-state_counts-all) → c.args.t.now.components ≤ length c.state_counts-all.result
inside c =
    let twelve : length c.state_counts-all.result ≡ most_components = search rules in
    rw twelve (components-most _ c.requires.sound)

-- the part of the table for their joint states
front : (c : After-joint_states-joint)
    → Front c.args.t.now c.args.classes.now (take c.args.t.now.components c.state_counts-all.result) c.joint_states-joint.result
front c =
    record {
      sound = c.requires.sound;
      room = c.requires.most_joint_states_in_bounds;
      is_counts = ap (take c.args.t.now.components) c.state_counts-all.ensures;
      is_joint = c.joint_states-joint.ensures;
    }

pub slice_bounds-all-end : goal.slice_bounds-all-end
slice_bounds-all-end c = inside (goal.at.slice_bounds-all-end c).After-state_counts-all

pub slice_bounds-counts-end : goal.slice_bounds-counts-end
slice_bounds-counts-end c = sym (length-take-le _ _ (inside (goal.at.slice_bounds-counts-end c).After-state_counts-all))

pub joint_states-joint-requires-clause-small : goal.joint_states-joint-requires-clause-small
joint_states-joint-requires-clause-small c =
    counts-small _ c.requires.sound _ (ap (take c.args.t.now.components) c.state_counts-all.ensures)

pub slice_bounds-draw_classes-end : goal.slice_bounds-draw_classes-end
slice_bounds-draw_classes-end c = front-inside (front (goal.at.slice_bounds-draw_classes-end c).After-joint_states-joint)

pub slice_bounds-draw_classes-end-2 : goal.slice_bounds-draw_classes-end-2
slice_bounds-draw_classes-end-2 c =
    sym (length-take-le _ _ (front-inside (front (goal.at.slice_bounds-draw_classes-end-2 c).After-joint_states-joint)))

pub draw_classes-requires-clause-block : goal.draw_classes-requires-clause-block
draw_classes-requires-clause-block c = front-block (front (goal.at.draw_classes-requires-clause-block c).After-joint_states-joint)

pub draw_classes-requires-clause-loads_le_most_loads : goal.draw_classes-requires-clause-loads_le_most_loads
draw_classes-requires-clause-loads_le_most_loads c = loads-most _ c.requires.sound

pub returns : goal.returns
returns c =
    let part = front (goal.at.returns c).After-joint_states-joint in
    let drawn = c.draw_classes.ensures in
    record {
      is = drawn.fault ∙ ap (λ (l : List ℕ). drawn_fault l c.args.t.now.loads c.args.tree.now) part.is_counts;
      tabled = λ none. record { holds = front-put part c.args.tree.now (kept c.draw_classes.result drawn.classes none) };
    }

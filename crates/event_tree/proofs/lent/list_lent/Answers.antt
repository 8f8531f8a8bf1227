-- `event_tree::lent::list_lent` meets its contract: the count of paths gives the exact need, before anything is
-- written.
use Rattle.std.proofs.Common.{sym, ap, ◌∙◌, arith, rules, Ok}
use Rattle.rules.proofs.Rows.{room-kept}
use Rattle.answers.proofs.Answered.{answered-done, filled-done}
use Rattle.answers.proofs.ByNumber.{answered-by, filled-by}
use Rattle.paths.proofs.Need.{paths-few, room-is}
use Rattle.event_tree.proofs.lent.list_lent.Goals as goal

pub list_need-requires-clause-paths_le_most_joint_states : goal.list_need-requires-clause-paths_le_most_joint_states
list_need-requires-clause-paths_le_most_joint_states c =
    omega (arith, c.count_paths-count.ensures, paths-few c.requires)

pub returns-in_err-room_fault-clause-answer : goal.returns-in_err-room_fault-clause-answer
returns-in_err-room_fault-clause-answer c =
    let fault = room-is c.requires _ c.count_paths-count.ensures c.list_need.ensures c.in_err-room_fault.ensures in
    rw (← fault, answered-by) (search rules)

pub returns-in_err-room_fault-clause-buffer : goal.returns-in_err-room_fault-clause-buffer
returns-in_err-room_fault-clause-buffer c =
    let fault = room-is c.requires _ c.count_paths-count.ensures c.list_need.ensures c.in_err-room_fault.ensures in
    rw (← fault) (sym (filled-by _ _ c.in_err-room_fault.field-0.0))

pub list_paths-requires-clause-block_in_bounds : goal.list_paths-requires-clause-block_in_bounds
list_paths-requires-clause-block_in_bounds c =
    room-kept _ _ (sym (room-is c.requires _ c.count_paths-count.ensures c.list_need.ensures
    c.in_ok-room_fault.ensures))

pub returns-clause-answer : goal.returns-clause-answer
returns-clause-answer c =
    let fault = room-is c.requires _ c.count_paths-count.ensures c.list_need.ensures c.in_ok-room_fault.ensures in
    ap (λ n. Ok (record { paths = n })) c.count_paths-count.ensures ∙ sym (answered-done _ _ _ (sym fault))

pub returns-clause-buffer : goal.returns-clause-buffer
returns-clause-buffer c =
    let fault = room-is c.requires _ c.count_paths-count.ensures c.list_need.ensures c.in_ok-room_fault.ensures in
    c.list_paths.ensures ∙ sym (filled-done _ _ _ (sym fault))

-- `report_text::model_text::classes_text`: the classes in its list are those that occur, and its tables by class those of the model,
-- which hide the counts that stood there before.
use Rattle.std.proofs.Common.{rules, ◌≡◌, ◌≤◌, sym, ◌∙◌, length, take, arith}
use Rattle.std.proofs.Math.Seq.{length-take-le}
use Rattle.rules.specs.Limits.{most_joint_states}
use Rattle.entries.specs.Entries.{entries_of}
use Rattle.entries.proofs.Entries.{entries-long}
use Rattle.totals.proofs.Placed.{placed-over}
use Rattle.study_model.specs.InHand.{model_in}
use Rattle.evaluation.specs.Bounds.{class_lowers}
use Rattle.report_lines.specs.Classes.{class_lines}
use Rattle.report_lines.proofs.Borne.{borne-few}
use Rattle.report_text.specs.Report.{classes_text}
use Rattle.report_text.proofs.Tables.{lowers-long, classes-are}
use Rattle.report_text.proofs.model_text.classes_text.Goals as goal
use Rattle.report_text.proofs.model_text.classes_text.Goals.{After-occurring-number, After-write_classes}

inside : (c : After-occurring-number) → c.occurring-number.result ≤ length c.occurring-number.new.classes
inside c =
    let l = c.listed.result in
    let places : length c.occurring-number.new.classes ≡ most_joint_states = search rules in
    omega (
      arith,
      c.occurring-number.ensures.classes.behind,
      borne-few l.components (entries_of l.components l.paths l.list.now),
      entries-long l.components l.paths l.list.now,
      c.listed.ensures.paths,
      c.requires.listed.number,
      c.requires.listed.room.few,
      places,
    )

lines_are : (c : After-write_classes) → let list = c.occurring-number in
    class_lines (take list.result list.new.classes) c.write_classes.new.lower c.write_classes.new.upper ≡ classes_text (model_in c.args.model)
lines_are c =
    let l = c.listed.result in
    classes-are (model_in c.args.model) l.components l.paths l.list.now _ _ _ c.listed.ensures.components c.listed.ensures.entries c.occurring-number.ensures.classes c.write_classes.ensures.lower
    c.write_classes.ensures.upper

pub slice_bounds-borne-end : goal.slice_bounds-borne-end
slice_bounds-borne-end c = inside (goal.at.slice_bounds-borne-end c).After-occurring-number

pub slice_bounds-class_lines-end : goal.slice_bounds-class_lines-end
slice_bounds-class_lines-end c = sym (length-take-le _ _ (inside (goal.at.slice_bounds-class_lines-end c).After-occurring-number))

pub class_lines-requires-clause-room : goal.class_lines-requires-clause-room
class_lines-requires-clause-room c = rw (lines_are (goal.at.class_lines-requires-clause-room c).After-write_classes) c.requires.room

pub returns-clause-text : goal.returns-clause-text
returns-clause-text c = rw (← lines_are (goal.at.returns-clause-text c).After-write_classes) c.class_lines.ensures

pub returns-clause-lower : goal.returns-clause-lower
returns-clause-lower c =
    let m = model_in c.args.model in
    let hidden = placed-over c.occurring-number.ensures.counts c.requires.class_places_in_bounds (class_lowers m) (lowers-long m) in
    c.write_classes.ensures.lower ∙ hidden

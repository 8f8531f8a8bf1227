-- `report_text::reporting::sound_report`: the class table is that of the study's gates, and the study's model stands beside it.
use Rattle.std.proofs.Common.{rules, ◌≤◌, length}
use Rattle.rules.specs.Limits.{most_joint_states}
use Rattle.fault_tree.specs.Classes.{classes}
use Rattle.model.specs.Model.{classes_of}
use Rattle.probability.specs.Totals.{lower_classes, upper_classes}
use Rattle.study_model.proofs.StudyHeld.{in-hand}
use Rattle.meaning.specs.Meaning.{by_gates, model_of}
use Rattle.meaning.specs.Sources.{Tabled}
use Rattle.meaning.proofs.Tables.{table-values}
use Rattle.report_text.proofs.Opened.{table-text}
use Rattle.report_text.proofs.reporting.sound_report.Goals as goal

pub invariant_of-model : goal.invariant_of-model
invariant_of-model c = record { in_hand = in-hand _ c.requires c.hold.ensures (search rules) }

pub returns : goal.returns
unfolding model_of classes_of classes
returns c =
    let table-room : most_joint_states ≤ length c.put_classes.new.table = search rules in
    let holds : Tabled by_gates c.args.t.now c.no_classes-classes.result c.put_classes.new.table = record { holds = c.put_classes.ensures } in
    let values = table-values by_gates _ c.requires c.hold.ensures table-room holds in
    let text = table-text _ c.requires c.hold.ensures table-room holds in
    rw (← values lower_classes, ← values upper_classes, ← text) c.model_report.ensures

-- `report_text::reporting::report`: what opening answers decides what is reported.
use Rattle.std.proofs.Common.{refl}
use Rattle.report_text.proofs.Opened.{opened-study}
use Rattle.report_text.proofs.Reported.{opened-reported, unopened-reported}
use Rattle.report_text.proofs.reporting.report.Goals as goal

pub sound_report-requires : goal.sound_report-requires
sound_report-requires c = opened-study _ c.in-Ok.ensures refl

pub returns-in-Ok : goal.returns-in-Ok
returns-in-Ok c =
    let all = opened-reported _ c.in-Ok.ensures refl c.sound_report.ensures in
    record { answer = all.0; text = all.1.0; lower = all.1.1.0; upper = all.1.1.1 }

pub returns-in-Err : goal.returns-in-Err
returns-in-Err c =
    let all = unopened-reported _ c.in-Err.ensures _ _ _ refl c.refused_report.ensures.answer c.refused_report.ensures.text in
    record { answer = all.0; text = all.1.0; lower = all.1.1.0; upper = all.1.1.1 }

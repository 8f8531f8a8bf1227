-- `export_texts::report` meets its contract: the call's own.
use Rattle.export_texts.proofs.Texts.{report-written}
use Rattle.export_texts.proofs.report.Goals as goal

pub returns : goal.returns
returns c =
    report-written c.answer_count.type_inv c.answer_count.ensures _ _ _ _ (c.report.ensures.answer, (c.report.ensures.text, (c.report.ensures.lower, c.report.ensures.upper)))

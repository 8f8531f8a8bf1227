-- `report_text::buffer::empty_report` meets its contract: every place is written out as 0.
use Rattle.lists.proofs.Cleared.{is-cleared}
use Rattle.report_text.specs.Report.{report_bytes}
use Rattle.report_text.proofs.buffer.empty_report.Goals as goal

pub returns : goal.returns
returns c =
    is-cleared report_bytes

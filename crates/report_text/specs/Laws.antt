-- What holds of every report.
use Rattle.std.specs.Prelude.{ℕ, ◌≤◌, List, length}
use Rattle.report_text.specs.Report.{report_bytes, report_text}

-- No report is longer than the buffer that is made for it.
abbrev pub ReportFits : Type 0
ReportFits = (bytes : List ℕ) → length (report_text bytes) ≤ report_bytes

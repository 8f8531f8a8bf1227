-- `report::main` is safe: a report that was written stands inside the buffer.
use Rattle.std.proofs.Common.{rules, arith, ◌≡◌, ◌≤◌, length, sym, ap}
use lib.Seq.{length-take-le}
use Rattle.answers.specs.Answers.{by_number}
use Rattle.report_text.specs.Report.{report_bytes}
use Rattle.report_text.proofs.Reported.{report-inside}
use Rattle.report.proofs.main.Goals as goal

pub slice_bounds-out-end : goal.slice_bounds-out-end
slice_bounds-out-end c =
    let same : length c.report.new.text ≡ report_bytes = search rules in
    let whole = c.empty_text-out.ensures in
    omega (arith, report-inside _ _ _ _ _ _ c.report.ensures.answer (ap by_number c.in-Ok.is), same, whole)

pub slice_bounds-write_all-end : goal.slice_bounds-write_all-end
slice_bounds-write_all-end c =
    let same : length c.report.new.text ≡ report_bytes = search rules in
    let whole = c.empty_text-out.ensures in
    let inside : c.in-Ok.size ≤ length c.report.new.text =
    omega (arith, report-inside _ _ _ _ _ _ c.report.ensures.answer (ap by_number c.in-Ok.is), same, whole) in
    sym (length-take-le _ _ inside)

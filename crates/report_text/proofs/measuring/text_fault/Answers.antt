-- `report_text::measuring::text_fault`: a buffer with room for any report has room for this one.
use Rattle.std.proofs.Common.{arith, sym, length, ◌≤◌}
use Rattle.rules.proofs.Rows.{room-none}
use Rattle.study_model.specs.InHand.{model_in}
use Rattle.report_text.specs.Report.{report_bytes, model_text}
use Rattle.report_text.proofs.Fits.{model-short, borne-listed}
use Rattle.report_text.proofs.measuring.text_fault.Goals as goal

pub returns-then-room-lt-REPORT_BYTES-clause-short : goal.returns-then-room-lt-REPORT_BYTES-clause-short
returns-then-room-lt-REPORT_BYTES-clause-short c =
    model-short (model_in c.args.model) c.requires.good (borne-listed c.requires (λ i. (c.type_inv.list i).fits))

pub returns : goal.returns
returns c =
    let m = model_in c.args.model in
    let short : length (model_text m) ≤ report_bytes = model-short m c.requires.good (borne-listed c.requires (λ i. (c.type_inv.list i).fits)) in
    record { breach = sym (room-none (length (model_text m)) c.args.room (omega (arith, short))); short = short }

-- `report_text::measuring::text_size`: the page has room for any text.
use Rattle.std.proofs.Common.{arith, rules, ◌≡◌, length}
use Rattle.study_model.specs.InHand.{model_in}
use Rattle.report_text.specs.Report.{report_bytes}
use Rattle.report_text.proofs.Fits.{model-short, borne-listed}
use Rattle.report_text.proofs.measuring.text_size.Goals as goal

pub listed_text-requires-clause-room : goal.listed_text-requires-clause-room
listed_text-requires-clause-room c =
    let short = model-short (model_in c.args.model) c.requires.good (borne-listed c.requires (λ i. (c.type_inv.list i).fits)) in
    let page : length c.new-out.result.buffer.now ≡ report_bytes = search rules in
    record { fits = omega (arith, short, page, c.new-out.ensures.none) }

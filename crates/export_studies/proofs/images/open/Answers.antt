-- `export_studies::images::open` meets its contract: the opened study is kept, or the refusal answered.
use Rattle.export_studies.proofs.Kept.{kept-as, refused-kept}
use Rattle.study.specs.Zero.{zero_study}
use Rattle.export_studies.proofs.images.open.Goals as goal

pub returns-in-Ok : goal.returns-in-Ok
returns-in-Ok c =
    kept-as c.keep.type_inv c.in-Ok.ensures c.keep.ensures

pub returns-in-Err : goal.returns-in-Err
returns-in-Err c =
    refused-kept c.in-Err.refusal zero_study c.refused.type_inv c.refused.ensures c.in-Err.ensures

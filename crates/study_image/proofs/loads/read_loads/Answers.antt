-- `study_image::loads::read_loads` meets its contract: the call at each number reads the record of its place.
use Rattle.std.proofs.Common.{rules}
use Rattle.study.specs.Zero.{zero_load}
use Rattle.study_image.specs.Image.{load_in}
use Rattle.study_image.proofs.Reading.{read-all}
use Rattle.study_image.proofs.loads.read_loads.Goals as goal

pub returns : goal.returns
returns c =
    read-all (load_in c.args.image.now) zero_load c.from_fn.ensures.items (λ i y f' called. search rules)

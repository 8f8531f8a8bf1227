-- `study_image::components::read_components` meets its contract: the call at each number reads the record of its place.
use Rattle.std.proofs.Common.{rules}
use Rattle.study.specs.Zero.{zero_component}
use Rattle.study_image.specs.Image.{component_in}
use Rattle.study_image.proofs.Reading.{read-all}
use Rattle.study_image.proofs.components.read_components.Goals as goal

pub returns : goal.returns
returns c =
    read-all (component_in c.args.image.now) zero_component c.from_fn.ensures.items (λ i y f' called. search rules)

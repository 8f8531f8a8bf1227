-- `study_image::gates::read_gates` meets its contract: the call at each number reads the record of its place.
use Rattle.std.proofs.Common.{rules}
use Rattle.study.specs.Places.{no_gate}
use Rattle.study_image.specs.Image.{gate_in}
use Rattle.study_image.proofs.Reading.{read-all}
use Rattle.study_image.proofs.gates.read_gates.Goals as goal

pub returns : goal.returns
returns c =
    read-all (gate_in c.args.image.now) no_gate c.from_fn.ensures.items (λ i y f' called. search rules)

-- `report_text::model_text::losses_text`: two parts, one behind the other, from one pair of bounds for each load.
use Rattle.std.proofs.Common.{◌≡◌, ◌∙◌, ap, length, arith}
use Rattle.lists.specs.Rows.{joined}
use Rattle.model.specs.InHand.{model_held}
use Rattle.study_model.specs.InHand.{model_in}
use Rattle.evaluation.specs.Bounds.{load_lowers, load_uppers}
use Rattle.evaluation.specs.Figures.{figures_by}
use Rattle.report_lines.specs.Figures.{figure_lines}
use Rattle.report_lines.specs.Loads.{load_lines}
use Rattle.answers.specs.Answers.{by_number}
use Rattle.report_text.specs.Report.{losses_text}
use Rattle.text.proofs.Written.{pieces}
use Rattle.report_text.proofs.Tables.{loads-are, figures-are}
use Rattle.report_text.proofs.model_text.losses_text.Goals as goal
use Rattle.report_text.proofs.model_text.losses_text.Goals.{After-loss_bounds-losses, After-figures_from}

loads : (c : After-loss_bounds-losses) → let l = c.loss_bounds-losses.result in let m = model_in c.args.model in
    load_lines l.lower l.upper c.args.model.held.now.loads ≡ load_lines (load_lowers m) (load_uppers m) (length m.loads)
unfolding model_held
loads c =
    let held = c.args.model.held.now in
    let places = c.args.model.in_hand.places in
    loads-are c.loss_bounds-losses.ensures held.load held.loads places.load places.loads

figures : (c : After-figures_from) → let m = model_in c.args.model in
    figure_lines (by_number c.figures_from.result) ≡ figure_lines (figures_by (load_lowers m) (load_uppers m) m.loads)
figures c = figures-are c.loss_bounds-losses.ensures _ (c.figures_from.ensures ∙ ap (figures_by _ _) c.loads.ensures)

pub load_lines-requires-clause-room : goal.load_lines-requires-clause-room
unfolding losses_text joined
load_lines-requires-clause-room c =
    let first = loads (goal.at.load_lines-requires-clause-room c).After-loss_bounds-losses in
    record { fits = rw first (grind (arith, pieces, c.requires.fits)) }

pub figure_lines-requires : goal.figure_lines-requires
unfolding losses_text joined
figure_lines-requires c =
    let at = goal.at.figure_lines-requires c in
    let first = loads at.After-loss_bounds-losses in
    let second = figures at.After-figures_from in
    record { fits = rw second (grind (arith, pieces, c.requires.fits, c.load_lines.ensures.behind, c.load_lines.ensures.long, first)) }

pub returns : goal.returns
unfolding losses_text joined
returns c =
    let at = goal.at.returns c in
    let first = loads at.After-loss_bounds-losses in
    let second = figures at.After-figures_from in
    let load = rw first at c.load_lines.ensures in
    let figure = rw second at c.figure_lines.ensures in
    record {
      holds = grind (arith, pieces, c.requires.fits, load.holds, load.behind, figure.holds);
      behind = grind (arith, pieces, load.behind, figure.behind);
      long = figure.long ∙ load.long;
      same_buffer = figure.same_buffer ∙ load.same_buffer;
    }

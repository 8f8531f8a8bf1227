-- `loss_calls::loads::load_bounds` meets its contract: without a breach the study is sound and has the load, and its table the classes of the meaning.
use Rattle.std.proofs.Common.{◌≡◌, ◌<◌, [], ◌∷◌, refl, sym, ◌∙◌, Err, arith, rules}
use Rattle.rules.specs.Limits.{most_loads}
use Rattle.soundness.proofs.Ranges.{loads-most}
use Rattle.answers.proofs.Answered.{answered-done, answered-refused}
use Rattle.rules.proofs.Judged.{some_row}
use Rattle.rules.proofs.Kept.{list-last, part-broken, part-kept}
use Rattle.probability.specs.Totals.{lower_loads, upper_loads}
use Rattle.study_model.proofs.StudyHeld.{in-hand}
use Rattle.meaning.specs.Meaning.{meaning_fault, model_of}
use Rattle.meaning.specs.Sources.{meaning_of}
use Rattle.meaning.proofs.Judging.{handed-on}
use Rattle.meaning.proofs.Tables.{table-values}
use Rattle.evaluation.specs.Losses.{LossesOf}
use Rattle.loss_calls.specs.Bounds.{loss_fault, load_bounded}
use Rattle.loss_calls.specs.Losses.{HasLoad}
use Rattle.loss_calls.proofs.Pairs.{loss-pair}
use Rattle.loss_calls.proofs.loads.load_bounds.Goals as goal
use Rattle.loss_calls.proofs.loads.load_bounds.Goals.{In_ok-load_breach}

-- the study and the load are judged
has_load : (c : In_ok-load_breach) → HasLoad c.args.study.now c.args.load
has_load c = c.in_ok-load_breach.ensures.has_load refl

placed : (c : In_ok-load_breach) → c.args.load < most_loads
placed c = omega (arith, (has_load c).below, loads-most c.args.study.now (has_load c).is_sound)

-- and the breach of the meaning decides
meaning-decides : (c : In_ok-load_breach)
    → let meaning = meaning_of c.args.source in
    loss_fault meaning c.args.study.now c.args.load ≡ meaning_fault meaning c.args.study.now
unfolding loss_fault
meaning-decides c = part-kept (_ ∷ _ ∷ []) (_ ∷ []) (sym c.in_ok-load_breach.ensures.is) ∙ list-last _

pub returns-in_err-load_breach : goal.returns-in_err-load_breach
unfolding load_bounded loss_fault
returns-in_err-load_breach c =
    let r = c.in_err-load_breach.field-0.0 in
    let some = some_row r in
    rw (handed-on _ r c.from_residual.ensures.1, ← part-broken (_ ∷ _ ∷ []) (_ ∷ []) c.in_err-load_breach.ensures.is some)
    (sym (answered-refused Err _ _ some))

pub put_classes-requires : goal.put_classes-requires
put_classes-requires c =
    record { sound = (has_load (goal.at.put_classes-requires c).In_ok-load_breach).is_sound; most_joint_states_in_bounds = search rules }

pub returns-in_err-put_classes : goal.returns-in_err-put_classes
unfolding load_bounded
returns-in_err-put_classes c =
    let r = c.in_err-put_classes.field-0.0 in
    let decides = meaning-decides (goal.at.returns-in_err-put_classes c).In_ok-load_breach in
    rw (handed-on _ r c.from_residual-in_err-put_classes.ensures.1, decides, ← c.in_err-put_classes.ensures.is)
    (sym (answered-refused Err _ _ (some_row r)))

pub hold-requires : goal.hold-requires
hold-requires c = (has_load (goal.at.hold-requires c).In_ok-load_breach).is_sound

pub invariant_of-loss_bounds : goal.invariant_of-loss_bounds
invariant_of-loss_bounds c =
    let sound = (has_load (goal.at.invariant_of-loss_bounds c).In_ok-load_breach).is_sound in
    record { in_hand = in-hand _ sound c.hold.ensures (search rules) }

pub offset_bounds-losses-load : goal.offset_bounds-losses-load
offset_bounds-losses-load c = record { fits = omega (arith, placed (goal.at.offset_bounds-losses-load c).In_ok-load_breach) }

pub bounds-losses-load : goal.bounds-losses-load
bounds-losses-load c = placed (goal.at.bounds-losses-load c).In_ok-load_breach

pub offset_bounds-losses-load-2 : goal.offset_bounds-losses-load-2
offset_bounds-losses-load-2 c = record { fits = omega (arith, placed (goal.at.offset_bounds-losses-load-2 c).In_ok-load_breach) }

pub bounds-losses-load-2 : goal.bounds-losses-load-2
bounds-losses-load-2 c = placed (goal.at.bounds-losses-load-2 c).In_ok-load_breach

pub returns : goal.returns
unfolding load_bounded
returns c =
    let here = (goal.at.returns c).In_ok-load_breach in
    let found = c.loss_bounds-losses.ensures in
    let put = c.in_ok-put_classes.ensures in
    let values = table-values _ _ (has_load here).is_sound c.hold.ensures (search rules) (put.tabled refl) in
    let losses : LossesOf (model_of (meaning_of c.args.source) c.args.study.now) c.loss_bounds-losses.result.lower c.loss_bounds-losses.result.upper =
    record { lowers = found.lowers ∙ values lower_loads; uppers = found.uppers ∙ values upper_loads; bounds = found.bounds } in
    loss-pair losses (placed here) ∙ sym (answered-done Err _ _ (meaning-decides here ∙ sym put.is))

-- `writing::saving::write_sound` meets its contract: the page has room for any sound study (`study-size`), and what was written on it is handed over.
use Rattle.std.proofs.Common.{arith}
use Rattle.writing.proofs.Longest.{study-size}
use Rattle.writing.proofs.Saved.{front-text}
use Rattle.writing.proofs.saving.write_sound.Goals as goal

pub write_study-size-requires : goal.write_study-size-requires
write_study-size-requires c =
    record { sound = c.requires; room = study-size _ c.requires }

pub slice_bounds-page-end : goal.slice_bounds-page-end
slice_bounds-page-end c =
    omega (arith, study-size _ c.requires, c.write_study-size.ensures.size, c.write_study-size.auto.page)

pub slice_bounds-hand_over-end : goal.slice_bounds-hand_over-end
slice_bounds-hand_over-end c =
    let done = c.write_study-size.ensures in
    rw (front-text _ done.written done.size) done.size

pub hand_over-requires : goal.hand_over-requires
hand_over-requires c =
    let done = c.write_study-size.ensures in
    rw (front-text _ done.written done.size) (omega (arith, study-size _ c.requires))

pub returns : goal.returns
returns c =
    let done = c.write_study-size.ensures in
    rw (front-text _ done.written done.size) at c.hand_over.ensures

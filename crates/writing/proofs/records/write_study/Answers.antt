-- `writing::records::write_study` meets its contract: the writer begins at the front of the page.
use Rattle.std.proofs.Common.{◌≡◌, length, refl, ap, ◌∙◌, arith, rules}
use Rattle.lists.specs.Rows.{put}
use Rattle.study_bytes.specs.Written.{study_bytes}
use Rattle.writing.proofs.records.write_study.Goals as goal

pub write_records-requires : goal.write_records-requires
write_records-requires c =
    let new = c.new-out.ensures in
    let long : length c.new-out.result.buffer.now ≡ length c.args.page.now = ap length new.bytes in
    record { sound = c.requires.sound; room = record { fits = omega (arith, long, new.none, c.requires.room) } }

pub returns-clause-written : goal.returns-clause-written
returns-clause-written c =
    let new = c.new-out.ensures in
    let records = c.write_records.ensures in
    let whole : c.write_records.new.out.buffer.now ≡ put c.args.page.now 0 (study_bytes c.args.t.now) = records.holds ∙ rw (new.bytes, new.none) refl in
    let same = records.same_buffer ∙ new.same_buffer in
    search (rules, whole, same)

pub returns-clause-size : goal.returns-clause-size
returns-clause-size c =
    omega (arith, c.size.ensures, c.write_records.ensures.behind, c.new-out.ensures.none)

-- `writing::saving::write` meets its contract: a study that passes the check is sound.
use Rattle.std.proofs.Common.{ap, ◌∙◌}
use Rattle.rules.specs.Table.{unsound_fault}
use Rattle.writing.proofs.Saved.{passed}
use Rattle.writing.proofs.saving.write.Goals as goal

pub write_sound-requires : goal.write_sound-requires
write_sound-requires c =
    passed _ (c.in_ok-unsound_fault.ensures ∙ ap unsound_fault c.is_sound.ensures)

-- `reading::record::read_fields` meets its contract. Each turn reads the field of a bit, where it stands; as many are left as bits stand from there on.
use Rattle.reading.specs.Fields.{map_bits, field_at}
use Rattle.reading.specs.Reader.{got}
use Rattle.reading.proofs.MapBits.{FieldsLeft}
use Rattle.reading.proofs.Repeats.{RepeatLeft}
use Rattle.reading.proofs.record.read_fields.Given as goal

abbrev pub invariant-loop-k : goal.invariant-loop-k
invariant-loop-k g l =
    record {
      left : FieldsLeft l.map l.left l.k;
      read : RepeatLeft (field_at (g.F.Fields.field l.of) l.map) map_bits l.initial.so_far l.initial.bytes.rest.now (got l.so_far l.bytes.rest.now) l.k;
    }

-- `reading::record::read_fields` meets its contract: a refusal is that of the whole run, and behind the loop the last field is read where one is left.
use Rattle.std.proofs.Common.{◌≡◌, ◌<◌, arith, rules}
use Rattle.rules.specs.Refusals.{row_of}
use Rattle.reading.specs.Fields.{map_bits, fields}
use Rattle.reading.specs.Reader.{refused}
use Rattle.reading.proofs.MapBits.{bit_left, left_behind, last-field}
use Rattle.reading.proofs.Repeats.{repeat-more, repeat-stopped}
use Rattle.reading.proofs.record.read_fields.Goals as goal

pub returns-in_err-read_where_set : goal.returns-in_err-read_where_set
returns-in_err-read_where_set g c =
    let inside : c.loop-k.k < map_bits = omega (arith, g.met.F.Fields.fit) in
    let whole : refused (row_of c.in_err-read_where_set.field-0.0) ≡ fields (g.F.Fields.field c.args.of.now) c.args.map c.args.so_far.now c.args.bytes.now.rest.now
    = repeat-stopped (repeat-more c.loop-k.invariant.read inside (c.in_err-read_where_set.ensures)) in
    search rules

pub fields_behind-left-requires : goal.fields_behind-left-requires
fields_behind-left-requires g c = bit_left c.loop-k.invariant.left (omega (arith, g.met.F.Fields.fit))

pub loop-k-preserved : goal.loop-k-preserved
loop-k-preserved g c =
    let inside : c.loop-k.k < map_bits = omega (arith, g.met.F.Fields.fit) in
    record {
      left = rw c.fields_behind-left.ensures (left_behind c.loop-k.invariant.left);
      read = repeat-more c.loop-k.invariant.read inside (c.in_ok-read_where_set.ensures);
    }

pub returns : goal.returns
returns g c =
    last-field _ _ _ c.loop-k.invariant.left c.loop-k.invariant.read (omega (arith, c.last-k-end.ensures)) g.met.F.Fields.fit c.requires g.met.F.Fields.all
    c.read_last.ensures

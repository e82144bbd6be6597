use Rattle.std.proofs.Common.{arith, ap, length, subst}
use Rattle.dwg_bits.proofs.BitLaws.{length_of_low_bits}
use Rattle.dwg_bits.specs.Sink.{Extends}
use Rattle.dwg_grammar.specs.Codes.{rc}
use Rattle.dwg_grammar.specs.ToEnd.{short_all}
use Rattle.dwg_appitems.proofs.ItemWriting.{length_of_counted, counted_written, counted_value}
use Rattle.dwg_appitems.proofs.writing.write_counted.Goals as goal

pub write_bytes-requires : goal.write_bytes-requires
write_bytes-requires c = record {
  room = omega (
    arith,
    c.requires.room,
    length_of_counted c.args.bytes.now,
    c.write.ensures.spare,
    length_of_low_bits 8 (length c.args.bytes.now),
    ap length c.bytes_with_range.ensures.same,
  );
}

pub returns-clause-written : goal.returns-clause-written
returns-clause-written c =
    counted_written c.args.bytes.now _ _ _ c.write.ensures
    (subst (λ bytes. Extends c.write.new.sink c.write_bytes.new.sink (short_all rc bytes)) c.bytes_with_range.ensures.same c.write_bytes.ensures)

pub returns-clause-value : goal.returns-clause-value
returns-clause-value c = counted_value c.args.bytes.now c.bytes_with_range.ensures.bytes c.requires.count
